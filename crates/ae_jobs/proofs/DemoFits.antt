-- No demo is refused: its program is accepted, its words have 16 bits, and its run is short.
use Rattle.std.proofs.Common.{◌≡◌, ℕ, zero, suc, ◌+◌, ◌*◌, ◌^◌, ◌<◌, ◌≤◌, List, [], ◌∷◌, ◌++◌, map, replicate, take, refl, arith, ap, sym, ◌∙◌, subst, append_assoc}
use Rattle.std.specs.Prelude.{codes}
use Rattle.std.specs.Fmt as fmt
use Rattle.std.specs.Fmt.{decimal}
use Rattle.ae_word.specs.AtomTree.{WordKind, unsigned_word}
use Rattle.ae_seqtype.specs.SeqTree.{atom, seq, kinds}
use Rattle.ae_seq.specs.ProgramTree.{ProgramTree}
use Rattle.ae_fields.specs.Grammar.{IsProgramText as Reads, program}
use Rattle.ae_print.specs.Printed.{program_text, text_of}
use Rattle.ae_rewrite.specs.Scheduled.{IsSchedule}
use Rattle.ae_rewrite.specs.StProgramTree.{StFuncTree}
use Rattle.ae_delay.specs.declared.own.OwnCosts.{OwnCosts}
use Rattle.ae_delay.specs.Costs.{all_costs}
use Rattle.ae_alike.specs.ByFunction.{costs_of}
use Rattle.ae_alike.proofs.Functions.{costs_by_function}
use Rattle.ae_alike.proofs.There.{schedules_there}
use Rattle.ae_demo.specs.Demos.{IsAcceptedDemo, demo_tree}
use Rattle.ae_lower.specs.Circuits.{last_of}
use Rattle.ae_lower.specs.Lowering.{costs_in}
use Rattle.ae_compile.specs.Costing.{HasCosts, load_limit, main_costs}
use Rattle.ae_compile.proofs.Large.{plain_main, plain_within}
use Rattle.ae_compile.proofs.Mains.{parts_of}
use Rattle.ae_play.specs.Lines.{clock_count}
use Rattle.ae_jobs.specs.DemoTexts.{demo_blocks, demo_program, demo_slowdown}
use Rattle.ae_jobs.specs.RunTexts.{input_widths}
use Rattle.ae_jobs.proofs.RowCounts.{mul-le}

-- ---- the text is that of the program

-- its lines, with these numerals
lines_with : (sixteen one whole : List ℕ) → List ℕ
lines_with sixteen one whole =
    text_of ((codes "fn" ∷ codes "sum" ∷ (codes "x" ++ 58 ∷ 117 ∷ sixteen) ∷ (codes "y" ++ 58 ∷ 117 ∷ sixteen) ∷ [])
    ∷ (codes "z" ∷ codes "=" ∷ codes "add" ∷ codes "x" ∷ codes "y" ∷ [])
    ∷ (codes "end" ∷ codes "z" ∷ [])
    ∷ (codes "fn" ∷ codes "main" ∷ (codes "a" ++ 58 ∷ 91 ∷ whole ++ 93 ∷ 117 ∷ sixteen) ∷ [])
    ∷ (codes "b" ∷ codes "=" ∷ codes "shift" ∷ one ∷ codes "a" ∷ [])
    ∷ (codes "c" ∷ codes "=" ∷ codes "map2" ∷ codes "sum" ∷ codes "a" ∷ codes "b" ∷ [])
    ∷ (codes "d" ∷ codes "=" ∷ codes "reduce" ∷ codes "add" ∷ codes "c" ∷ [])
    ∷ (codes "end" ∷ codes "d" ∷ [])
    ∷ [])

sixteen_is : decimal 16 ≡ codes "16"
unfolding fmt.digits
sixteen_is = refl

one_is : decimal 1 ≡ codes "1"
unfolding fmt.digits
one_is = refl

text_is : (n : ℕ) → program_text (demo_tree n) ≡ demo_program n
unfolding lines_with
text_is n =
    let front : List ℕ = codes "fn sum x:u16 y:u16\nz = add x y\nend z\nfn main a:[" in
    let mid : List ℕ = codes "]u16" in
    let rest : List ℕ = codes "\nb = shift 1 a\nc = map2 sum a b\nd = reduce add c\nend d\n" in
    let size : List ℕ = decimal (16 * n) in
    let numbers : program_text (demo_tree n) ≡ lines_with (decimal 16) (decimal 1) size = refl in
    let spelled : lines_with (decimal 16) (decimal 1) size ≡ lines_with (codes "16") (codes "1") size = λ i. lines_with (sixteen_is i) (one_is i) size in
    let laid : front ++ (((size ++ mid) ++ []) ++ rest) ≡ front
    ++ (size ++ (mid ++ rest)) = ap (λ xs. front ++ xs) (append_assoc (size ++ mid) [] rest ∙ append_assoc size mid rest) in
    numbers ∙ spelled ∙ laid

demo_reads : (n : ℕ) → IsAcceptedDemo n → Reads (demo_program n) (demo_tree n)
demo_reads n h = subst (λ (t : List ℕ). Reads t (demo_tree n)) (text_is n) h.reads

-- and no other one
pub demo_is : (n : ℕ) (p : ProgramTree) → IsAcceptedDemo n → Reads (demo_program n) p → p ≡ demo_tree n
demo_is n p h r = let e : program p ≡ program (demo_tree n) = sym r ∙ demo_reads n h in cc

-- its words have 16 bits
widths_each : (k : ℕ) → map (λ (w : WordKind). w.width) (kinds (seq k (atom (unsigned_word 16)))) ≡ replicate k 16
widths_each zero = refl
widths_each (suc k) = ap (λ ws. 16 ∷ ws) (widths_each k)

append_none : (xs : List ℕ) → xs ++ [] ≡ xs
append_none [] = refl
append_none (x ∷ xs) = ap (λ ys. x ∷ ys) (append_none xs)

pub demo_wide : (n : ℕ) → input_widths (demo_tree n) ≡ replicate (16 * n) 16
demo_wide n = append_none _ ∙ widths_each (16 * n)

-- what its schedule costs
demo_costs : (n : ℕ) (all : List StFuncTree) → IsAcceptedDemo n → IsSchedule (demo_tree n) (demo_slowdown n) all
    → main_costs (demo_tree n) all ≡ costs_of (demo_tree n) 1 (demo_slowdown n)
demo_costs n all h schedule =
    let parts = parts_of (demo_tree n) (demo_slowdown n) all schedule in
    plain_main (demo_tree n) all refl parts
    ∙ ap (costs_in (all_costs (take (last_of all) all))) parts.last
    ∙ costs_by_function (demo_tree n) (demo_slowdown n) all parts.instance h.formed_is schedule parts.last

pub demo_soon : (n : ℕ) (all : List StFuncTree) → IsAcceptedDemo n → IsSchedule (demo_tree n) (demo_slowdown n) all
    → (main_costs (demo_tree n) all).latency ≤ 100000
demo_soon n all h schedule = subst (λ (c : OwnCosts). c.latency ≤ 100000) (sym (demo_costs n all h schedule)) h.soon

pub demo_has_costs : (n : ℕ) → IsAcceptedDemo n → HasCosts load_limit (demo_program n) (demo_slowdown n)
demo_has_costs n h =
    let p = demo_tree n in
    let there = schedules_there p (demo_slowdown n) h.formed_is h.fine in
    let parts = parts_of p (demo_slowdown n) there.0 there.1 in
    let light : (main_costs p there.0).load ≤ 100000 = subst (λ (c : OwnCosts). c.load ≤ 100000) (sym (demo_costs n there.0 h there.1)) h.light in
    record {
      program = p;
      instances = there.0;
      costed = record {
        typed = record { reads = demo_reads n h; typed = h.typed };
        schedule = there.1;
        within = plain_within load_limit p there.0 refl parts light;
      };
    }

-- ---- a run on its blocks

count_most : (slowdown latency blocks : ℕ) → clock_count slowdown latency blocks ≤ latency + blocks * slowdown
count_most slowdown latency zero = omega arith
count_most slowdown latency (suc b) = omega arith

pub short_run : (n latency clocks : ℕ) → n ≤ 64 → latency ≤ 100000 → clocks ≡ clock_count (demo_slowdown n) latency (demo_blocks n) → clocks < 2 ^ 32
short_run n latency clocks few soon is =
    let most = count_most (demo_slowdown n) latency (demo_blocks n) in
    let wide : 2 * n * (4 * n) ≤ 2 * n * 256 = mul-le (2 * n) (4 * n) 256 (omega (arith, few)) in
    omega (arith, most, wide, few, soon, is)
