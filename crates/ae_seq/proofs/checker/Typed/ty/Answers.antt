use Rattle.std.proofs.Common.{◌≡◌, ◌∙◌, ap, subst, is_some, [], List, Vec, Global}
use Rattle.ae_seqtype.specs.declared.seq_type.SeqType.{SeqType}
use Rattle.ae_seq.specs.Accepted.{is_item}
use Rattle.ae_seq.specs.ProgramTree.{program_tree}
use Rattle.ae_seq.specs.declared.program.Program.{Program}
use Rattle.ae_seq.specs.Signatures.{kept_type}
use Rattle.ae_seq.specs.Trees.{option_lent, types_of}
use Rattle.ae_seq.specs.Typing.{type_at}
use Rattle.ae_seq.proofs.Items.{kept-types, kept-there, kept-sized, is_some-lent, lent-sized}
use Rattle.ae_seq.proofs.checker.Typed.ty.Goals as goal

pub returns-clause-ty : goal.returns-clause-ty
returns-clause-ty c =
    let p = program_tree c.self.inside.program in
    let tss = types_of c.self.inside.types.items in
    let P : List (Vec SeqType Global) → Type 0 = λ xs. option_lent c.kept_type.result ≡ kept_type (types_of xs) c.args.func c.args.item in
    let e = subst P c.deref.ensures.value c.kept_type.ensures in
    let Q : Program → Type 0 = λ q. option_lent c.kept_type.result ≡ type_at (program_tree q) c.args.func c.args.item in
    subst Q c.self.view_is (e ∙ kept-types [] p.funcs tss c.args.func c.args.item c.self.invariant.types)

pub returns-clause-there : goal.returns-clause-there
returns-clause-there c =
    let p = program_tree c.self.inside.program in
    let tss = types_of c.self.inside.types.items in
    let P : List (Vec SeqType Global) → Type 0 = λ xs. option_lent c.kept_type.result ≡ kept_type (types_of xs) c.args.func c.args.item in
    let e = subst P c.deref.ensures.value c.kept_type.ensures in
    let Q : Program → Type 0 = λ q. is_some c.kept_type.result ≡ is_item (program_tree q) c.args.func c.args.item in
    subst Q c.self.view_is (is_some-lent c.kept_type.result ∙ ap is_some e ∙ kept-there [] p.funcs tss c.args.func c.args.item c.self.invariant.types)

pub returns-clause-sized : goal.returns-clause-sized
returns-clause-sized c =
    let tss = types_of c.self.inside.types.items in
    let P : List (Vec SeqType Global) → Type 0 = λ xs. option_lent c.kept_type.result ≡ kept_type (types_of xs) c.args.func c.args.item in
    let e = subst P c.deref.ensures.value c.kept_type.ensures in
    lent-sized c.kept_type.result _ e (λ t h. kept-sized tss c.args.func c.args.item t c.self.invariant.sized h)
