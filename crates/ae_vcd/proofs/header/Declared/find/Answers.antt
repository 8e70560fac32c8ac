use Rattle.std.proofs.Common.{◌≡◌, ℕ, Some, get_or, sym, ◌∙◌, subst, arith}
use Rattle.std.proofs.lemmas.List.{get_or_read}
use Rattle.ae_vcd.specs.declared.header.Declared.{Declared}
use Rattle.ae_vcd.specs.Codes.{place}
use Rattle.ae_vcd.specs.Held.{HasWidth}
use Rattle.ae_vcd.proofs.Tables.{look_known, look_new, place_is}
use Rattle.ae_vcd.proofs.header.Declared.find.Goals as goal

pub returns-in-Some : goal.returns-in-Some
returns-in-Some c = λ vs t.
    let d : Declared = c.args.self.now in
    let e : place c.args.code.now d.codes ≡ Some c.in-Some.number = sym c.find.ensures ∙ c.in-Some.is in
    let h = look_known d.codes d.code_widths.items d.numbers.items vs c.args.code.now c.in-Some.number t.table e in
    let p = place_is c.args.code.now d.codes c.in-Some.number e in
    let w : c.index.result.now ≡ get_or d.code_widths.items c.in-Some.number 0 = get_or_read d.code_widths.items c.in-Some.number c.index.result.now
    (let q = p.0 in omega (arith, t.table.each)) c.index.ensures 0 in
    (subst (λ (x : ℕ). HasWidth vs c.args.code.now x) (sym w) h, e)

pub returns-in-None : goal.returns-in-None
returns-in-None c = λ vs t.
    let d : Declared = c.args.self.now in
    look_new d.codes d.code_widths.items d.numbers.items vs c.args.code.now t.table (sym c.find.ensures ∙ c.in-None.is)
