-- The layouts are those of the report.
use Rattle.std.proofs.lemmas.Result.{err_from_is_err_and}
use Rattle.std.proofs.Common.{◌≡◌, ◌<◌, List, inl, inr, length, map, sum_by, arith, sym, subst}
use Rattle.ae_sttype.specs.declared.st_type.StType.{StType}
use Rattle.ae_sttype.specs.StTree.{st_tree}
use Rattle.ae_sttype.specs.Moves.{columns_of}
use Rattle.ae_streamed.specs.Beats.{AreLayouts}
use Rattle.ae_channel.proofs.channels.between.Goals as goal

pub stream-requires-clause-inputs : goal.stream-requires-clause-inputs
stream-requires-clause-inputs c = subst (AreLayouts c.args.report.now.slowdown) (sym c.as_slice.ensures.value) c.requires.inputs

pub stream-requires-clause-outputs : goal.stream-requires-clause-outputs
stream-requires-clause-outputs c = subst (AreLayouts c.args.report.now.slowdown) (sym c.as_slice-2.ensures.value) c.requires.outputs

pub stream-requires-clause-ins : goal.stream-requires-clause-ins
stream-requires-clause-ins c =
    subst (λ (v : List StType). sum_by columns_of (map st_tree v) < length c.args.netlist.now.cells) (sym c.as_slice.ensures.value) c.requires.ins

pub stream-requires-clause-outs : goal.stream-requires-clause-outs
stream-requires-clause-outs c =
    subst (λ (v : List StType). length c.args.netlist.now.outlets ≡ sum_by columns_of (map st_tree v)) (sym c.as_slice-2.ensures.value) c.requires.outs

pub returns-clause-stream : goal.returns-clause-stream
returns-clause-stream c = rw (c.as_slice.ensures.value, c.as_slice-2.ensures.value) at c.in_ok-new.ensures.stream

pub returns-in_err-new-clause-full : goal.returns-in_err-new-clause-full
returns-in_err-new-clause-full c =
    let p = err_from_is_err_and c.from_residual.result c.from_residual.ensures.1 in
    let full = rw (c.as_slice.ensures.value, c.as_slice-2.ensures.value) at c.in_err-new.ensures.full in
    rw (p.1, p.2) (λ e. inr (elim (full e) [ inl marked ↦ inl marked | inr all ↦ inr (omega (arith, all)) ]))
