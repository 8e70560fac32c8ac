use Rattle.ae_seq.specs.ProgramTree.{program_tree}
use Rattle.ae_eval.proofs.Typing.{found-type, never-none}
use Rattle.ae_eval.proofs.starts.item_type.Goals as goal

pub unreachable-requires : goal.unreachable-requires
unreachable-requires c =
    never-none (program_tree c.args.p.now) c.args.func c.args.item c.ty.result c.requires.typed c.ty.ensures.ty c.in_default.is c.requires.there

pub returns-clause-is : goal.returns-clause-is
returns-clause-is c =
    found-type (program_tree c.args.p.now) c.args.func c.args.item c.ty.result c.in-Some.ty c.requires.typed c.ty.ensures.ty c.in-Some.is
