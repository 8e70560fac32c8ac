use Rattle.std.proofs.Common.{◌≡◌, ◌-◌, []}
use Rattle.ae_vread.specs.ItemReading.{Held, items}
use Rattle.ae_vread.specs.ReadModule.{IsHeld}
use Rattle.ae_vmodule.specs.Words.{Extends}
use Rattle.ae_vread.proofs.reading.Reader.items.Given as goal

-- what is left to do is what there was to do
abbrev pub invariant-item : goal.invariant-item
invariant-item l =
    (first : Held) → IsHeld l.fn.nets.items [] l.fn.self first
    → (h : Held) × IsHeld l.nets.items l.items.items l.self h × (items l.most 0 first ≡ items (l.most - l.turn) l.turn h) × Extends l.fn.self.words l.self.words
