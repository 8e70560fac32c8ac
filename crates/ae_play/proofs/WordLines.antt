-- The lines that are written of a run.
use Rattle.std.proofs.Common.{ℕ, zero, suc, ◌≡◌, ◌+◌, ◌≤◌, ◌-◌, ◌*◌, ◌%◌, ◌&&◌, Bool, true, false, List, [], ◌∷◌, ◌++◌, map, nat_eq, nat_le, arith, refl, ap, sym, ◌∙◌, append_assoc, true≢false}
use Rattle.std.specs.Prelude.{Any}
use Rattle.std.specs.List.{list_any}
use Rattle.std.specs.Fmt.{decimal}
use Rattle.std.proofs.lemmas.List.{append-nil}
use Rattle.std.proofs.lemmas.List.Folds.{Any-from_list_any, list_any-from_Any}
use Rattle.std.proofs.lemmas.Bool.{le-leb}
use Rattle.std.proofs.lemmas.Bool.Decides.{nat_tests}
use Rattle.ae_sttype.specs.declared.st_type.Slot.{Slot}
use Rattle.ae_sttype.specs.StTree.{StTree}
use Rattle.ae_sttype.specs.Slots.{slots, IsLive}
use Rattle.ae_play.specs.Keeps.{Keeps}
use Rattle.ae_play.specs.Lines.{clock_count, clock_line, clock_lines, spaced, stands}

-- a word more
pub spaced_more : (w : ℕ) (ws rest now spacing new all : List ℕ) → ws ≡ w ∷ rest → spacing ≡ now ++ 32 ∷ [] → new ≡ spacing ++ decimal w → now
    ++ spaced ws ≡ all → new ++ spaced rest ≡ all
spaced_more w ws rest now spacing new all is spacing_is new_is was =
    ap (λ x. x ++ spaced rest) (new_is ∙ ap (λ x. x ++ decimal w) spacing_is ∙ append_assoc now (32 ∷ []) (decimal w))
    ∙ append_assoc now (32 ∷ decimal w) (spaced rest)
    ∙ ap (λ x. now ++ spaced x) (sym is)
    ∙ was

-- ---- clocks in which a result stands

found : (s : StTree) (c : ℕ) → IsLive s c → list_any (λ (w : Slot). nat_eq w.clock c) (slots s) ≡ true
found s c h = list_any-from_Any (λ (w : Slot). nat_eq w.clock c) (slots s) (any_tests h)
  where
    test : (n : ℕ) → n ≡ c → nat_eq n c ≡ true
    test n e = grind (arith, nat_tests)

    any_tests : Any (λ (w : Slot). w.clock ≡ c) (slots s) → Any (λ (w : Slot). nat_eq w.clock c ≡ true) (slots s)
    any_tests any = (any.0, any.1, any.2, any.3, test any.1.clock any.4)

live : (s : StTree) (c : ℕ) → list_any (λ (w : Slot). nat_eq w.clock c) (slots s) ≡ true → IsLive s c
live s c h = any_at (Any-from_list_any (λ (w : Slot). nat_eq w.clock c) (slots s) h)
  where
    at : (n : ℕ) → nat_eq n c ≡ true → n ≡ c
    at n e = grind (arith, nat_tests)

    any_at : Any (λ (w : Slot). nat_eq w.clock c ≡ true) (slots s) → Any (λ (w : Slot). w.clock ≡ c) (slots s)
    any_at any = (any.0, any.1, any.2, any.3, at any.1.clock any.4)

pub stands_live : (slowdown latency c : ℕ) (s : StTree) → latency ≤ c → IsLive s ((c - latency) % slowdown) → stands slowdown latency c s ≡ true
stands_live slowdown latency c s h l = rw (le-leb latency c h, found s ((c - latency) % slowdown) l) refl

neither : (a b : Bool) → (a ≡ true → b ≡ true → ⊥) → (a && b) ≡ false
neither true true h = absurd (h refl refl)
neither true false h = refl
neither false b h = refl

reached : (latency c : ℕ) → nat_le latency c ≡ true → latency ≤ c
reached latency c h = grind (arith, nat_tests)

pub stands_not : (slowdown latency c : ℕ) (s : StTree) → (latency ≤ c → IsLive s ((c - latency) % slowdown) → ⊥) → stands slowdown latency c s ≡ false
stands_not slowdown latency c s h =
    neither (nat_le latency c) (list_any (λ (w : Slot). nat_eq w.clock ((c - latency) % slowdown)) (slots s))
    (λ p q. h (reached latency c p) (live s ((c - latency) % slowdown) q))

pub stands_by : (slowdown latency c : ℕ) (s : StTree) (b : Bool) → latency ≤ c → (b ≡ true → IsLive s ((c - latency) % slowdown))
    → (IsLive s ((c - latency) % slowdown) → b ≡ true) → b ≡ stands slowdown latency c s
stands_by slowdown latency c s true h there here = sym (stands_live slowdown latency c s h (there refl))
stands_by slowdown latency c s false h there here = sym (stands_not slowdown latency c s (λ late l. true≢false (sym (here l))))

-- ---- a line

pub line_is : (number : ℕ) (marks ws old numbered parted marked worded new : List ℕ) → numbered ≡ old ++ decimal number → parted ≡ numbered ++ 32 ∷ []
    → marked ≡ parted ++ marks
    → worded ≡ marked ++ spaced ws → new ≡ worded ++ 10 ∷ [] → new ≡ old ++ (((decimal number ++ (32 ∷ marks)) ++ spaced ws) ++ 10 ∷ [])
line_is number marks ws old numbered parted marked worded new a b d e f =
    f ∙ ap (λ x. x ++ 10 ∷ []) (e ∙ ap (λ x. x ++ spaced ws)
    (d ∙ ap (λ x. x ++ marks) (b ∙ ap (λ x. x ++ 32 ∷ []) a) ∙ append_assoc (old ++ decimal number) (32 ∷ []) marks))
    ∙ ap (λ x. (x ++ spaced ws) ++ 10 ∷ []) (append_assoc old (decimal number) (32 ∷ marks))
    ∙ ap (λ x. x ++ 10 ∷ []) (append_assoc old (decimal number ++ 32 ∷ marks) (spaced ws))
    ∙ append_assoc old ((decimal number ++ 32 ∷ marks) ++ spaced ws) (10 ∷ [])

pub marks_more : (mark_of : StTree → ℕ) (s : StTree) (ss rest : List StTree) (text now new all : List ℕ) → ss ≡ s ∷ rest → text ≡ mark_of s ∷ [] → new ≡ now
    ++ text → now ++ map mark_of ss ≡ all → new ++ map mark_of rest ≡ all
marks_more mark_of s ss rest text now new all is marked made was =
    ap (λ ys. ys ++ map mark_of rest) (made ∙ ap (λ ys. now ++ ys) marked) ∙ append_assoc now (mark_of s ∷ []) (map mark_of rest) ∙
    (ap (λ ts. now ++ map mark_of ts) (sym is) ∙ was)

-- the lines of all clocks, whatever else what is kept has
pub lines_kept : {K : Type 0} (content : K → List ℕ) (slowdown latency : ℕ) (outs : List StTree) (row shown : ℕ → List ℕ) (first : K) (n : ℕ) (last : K)
    → Keeps (λ c r ws old new. content new ≡ content old ++ clock_line slowdown latency outs c ws) row shown first n last → content last ≡ content first
    ++ clock_lines slowdown latency outs shown n
lines_kept content slowdown latency outs row shown first zero last k = ap content k ∙ sym (append-nil (content first))
lines_kept content slowdown latency outs row shown first (suc c) last k =
    k.2
    ∙ ap (λ x. x ++ clock_line slowdown latency outs c (shown c)) (lines_kept content slowdown latency outs row shown first c k.0 k.1)
    ∙ append_assoc (content first) (clock_lines slowdown latency outs shown c) (clock_line slowdown latency outs c (shown c))

-- ---- how many clocks

pub counted : (slowdown latency blocks : ℕ) → (blocks ≡ 0 → ⊥) → clock_count slowdown latency blocks ≡ latency + blocks * slowdown
counted slowdown latency zero h = absurd (h refl)
counted slowdown latency (suc b) h = refl
