use Rattle.std.proofs.Common.{◌≡◌, ℕ, List, Option, IfOk, option_map, subst}
use Rattle.ae_word.specs.AtomTree.{AtomTree}
use Rattle.ae_fields.specs.View.{atom_rest}
use Rattle.ae_fields.proofs.TypeSteps.{atom-opens}
use Rattle.ae_fields.proofs.types.+atoms.Goals as goal

pub read_atom-returns-then-levels-gt0 : goal.read_atom-returns-then-levels-gt0
read_atom-returns-then-levels-gt0 t c =
    let Q : Option (AtomTree × List ℕ) → Type 0 = λ x. IfOk c.read_pair.result (λ o. option_map atom_rest o ≡ x) in
    subst Q (atom-opens c.args.version c.args.levels c.args.bytes.now c.in-len1-up.len_at_least c.if-first-eq40.true c.if-levels-gt0.true) c.read_pair.ensures
