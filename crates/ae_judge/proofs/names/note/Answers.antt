-- What is noted of a name that is empty, and of any other.
use Rattle.std.proofs.Common.{◌≡◌, List, [], is_some, length, refl, sym, ap, ◌∙◌, ℕ, ◌∷◌, true, false, arith}
use Rattle.std.specs.Prelude.{nat_eq, ◌≢◌}
use Rattle.std.proofs.lemmas.Bool.Decides.{nat_tests}
use Rattle.ae_vmodule.specs.View.{word_at}
use Rattle.ae_judge.proofs.PlaceLemmas.{note_empty, note_more, noted_there}
use Rattle.ae_judge.proofs.names.note.Goals as goal

no_byte : (v : List ℕ) → nat_eq (length v) 0 ≡ true → v ≡ []
no_byte [] h = refl
no_byte (c ∷ cs) h = let l : length (c ∷ cs) ≡ 0 = grind (arith, nat_tests) in absurd (omega (arith, l))

some_byte : (v : List ℕ) → nat_eq (length v) 0 ≡ false → v ≡ [] → ⊥
some_byte v h e = let l : length v ≢ 0 = grind (arith, nat_tests) in l (ap length e)

pub returns-then-is_empty-clause-notes : goal.returns-then-is_empty-clause-notes
returns-then-is_empty-clause-notes c = λ es h.
    let nil : word_at c.args.words.now c.args.number ≡ [] = sym c.name.ensures ∙ no_byte c.name.result.now (sym c.is_empty.ensures ∙ c.if-is_empty.true) in
    rw (nil, c.put.ensures.put) (note_empty c.args.words.now es c.args.places.now.items c.args.empty.now c.args.place h)

pub returns-clause-there : goal.returns-clause-there
returns-clause-there c = λ es h.
    let some : word_at c.args.words.now c.args.number ≡ []
    → ⊥ = λ e. some_byte c.name.result.now (sym c.is_empty.ensures ∙ c.if-is_empty.false) (c.name.ensures ∙ e) in
    c.put-2.ensures.there ∙ ap is_some (c.index_mut.ensures.value
    ∙ noted_there c.args.words.now es c.args.places.now.items c.args.empty.now c.args.number c.index_mut.result.now some h)

pub returns-clause-notes : goal.returns-clause-notes
returns-clause-notes c = λ es h.
    let some : word_at c.args.words.now c.args.number ≡ []
    → ⊥ = λ e. some_byte c.name.result.now (sym c.is_empty.ensures ∙ c.if-is_empty.false) (c.name.ensures ∙ e) in
    rw (c.put-2.ensures.put, c.index_mut.ensures.value)
    (note_more c.args.words.now es c.args.places.now.items c.args.empty.now c.args.number c.args.place c.index_mut.result.now c.requires.apart some h)
