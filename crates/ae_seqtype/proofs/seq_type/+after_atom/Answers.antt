use Rattle.std.proofs.Common.{◌∙◌, sym, ap}
use Rattle.ae_seqtype.specs.ValueTree.{after}
use Rattle.ae_word.specs.AtomTree.{atom_tree, atom_kinds}
use Rattle.ae_seqtype.proofs.Values.{after-append-none, after-append-some}
use Rattle.ae_seqtype.proofs.seq_type.+after_atom.Goals as goal

pub returns-in_err-after_atom-in-Pair : goal.returns-in_err-after_atom-in-Pair
returns-in_err-after_atom-in-Pair t c =
    let e = c.in_err-after_atom-in-Pair.ensures ∙ ap (λ x. after (atom_kinds (atom_tree x)) c.args.words.now) c.deref-in-Pair.ensures in
    let form = ap (λ x. after (atom_kinds (atom_tree x)) c.args.words.now) c.in-Pair.is in
    rw c.from_residual.ensures (after-append-none (atom_kinds (atom_tree c.in-Pair.first.value))
    (atom_kinds (atom_tree c.in-Pair.second.value)) c.args.words.now e ∙ sym form)

pub returns-in_ok-after_atom-in-Pair : goal.returns-in_ok-after_atom-in-Pair
returns-in_ok-after_atom-in-Pair t c =
    let a = atom_kinds (atom_tree c.in-Pair.first.value) in
    let b = atom_kinds (atom_tree c.in-Pair.second.value) in
    let rest = c.in_ok-after_atom-in-Pair.field-0.now in
    let e = c.in_ok-after_atom-in-Pair.ensures ∙ ap (λ x. after (atom_kinds (atom_tree x)) c.args.words.now) c.deref-in-Pair.ensures in
    let form = ap (λ x. after (atom_kinds (atom_tree x)) c.args.words.now) c.in-Pair.is in
    c.after_atom-in-Pair.ensures ∙ ap (λ x. after (atom_kinds (atom_tree x)) rest) c.deref.ensures ∙ sym (after-append-some a b c.args.words.now rest e) ∙
    sym form
