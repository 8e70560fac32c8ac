use Rattle.std.proofs.Common.{◌<◌, ◌^◌, List, ℕ, [], ◌∷◌, refl, sym, arith}
use Rattle.std.specs.Prelude.{string_bytes}
use Rattle.std.specs.Fmt.{decimal}
use Rattle.ae_jobs.proofs.CsvRows.{decimal_plain, field_first, field_next}
use Rattle.ae_jobs.proofs.cost_table.write_row.Goals as goal

pub returns-clause-text : goal.returns-clause-text
returns-clause-text c =
    let end = string_bytes c.push_str-2.new.self in
    let muls : List (List ℕ) = decimal c.args.cost.muls ∷ [] in
    let load : List (List ℕ) = decimal c.args.cost.load ∷ muls in
    let latency : List (List ℕ) = decimal c.args.cost.latency ∷ load in
    let op : List (List ℕ) = c.args.op.now ∷ latency in
    let name : List (List ℕ) = c.args.name.now ∷ op in
    let a = field_next end _ _ _ (decimal c.args.cost.muls) [] c.in_ok-write_field-5.ensures c.format-4.ensures.text (sym c.in_ok-push_str-2.ensures.bytes) in
    let b = field_next end _ _ _ (decimal c.args.cost.load) muls c.in_ok-write_field-4.ensures c.format-3.ensures.text a in
    let d = field_next end _ _ _ (decimal c.args.cost.latency) load c.in_ok-write_field-3.ensures c.format-2.ensures.text b in
    let e = field_next end _ _ _ c.args.op.now latency c.in_ok-write_field-2.ensures refl d in
    let f = field_next end _ _ _ c.args.name.now op c.in_ok-write_field.ensures refl e in
    sym (field_first end _ _ _ (decimal c.args.line) name c.in_ok-push_str.ensures.bytes c.format.ensures.text f)

pub returns-clause-plain : goal.returns-clause-plain
returns-clause-plain c =
    let line : c.args.line < 2 ^ 64 = omega arith in
    let latency : c.args.cost.latency < 2 ^ 64 = omega arith in
    let load : c.args.cost.load < 2 ^ 64 = omega arith in
    let muls : c.args.cost.muls < 2 ^ 64 = omega arith in (
      decimal_plain c.args.line line,
      (
        c.requires.name,
        (
          c.requires.op,
          (decimal_plain c.args.cost.latency latency, (decimal_plain c.args.cost.load load, (decimal_plain c.args.cost.muls muls, tt))),
        ),
      ),
    )
