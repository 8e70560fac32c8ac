-- One item more of those that are used together.
use Rattle.std.proofs.Common.{◌≡◌, ℕ, ◌+◌, ◌-◌, ◌*◌, ◌^◌, ◌<◌, ◌≤◌, max, List, [], ◌∷◌, ◌++◌, length, take, set, get_or, sym, ap, ◌∙◌, arith, slice_get}
use Rattle.std.proofs.Math.Nat.{mul-le-mul}
use Rattle.std.proofs.lemmas.List.{get_or_read, map-append, take_more}
use Rattle.std.proofs.lemmas.List.Sums.{fold-append, sum_by_push}
use Rattle.std.proofs.lemmas.Option.{slice_get-get_or, unwrap_or-slice_get}
use Rattle.std.specs.Prelude.{unwrap_or}
use Rattle.ae_sttype.specs.StTree.{StTree}
use Rattle.ae_sttype.specs.Moves.{columns_of}
use Rattle.ae_rewrite.specs.Sound.{item_layout}
use Rattle.ae_delay.specs.Costs.{Use, latest, slack_load, uses_at}
use Rattle.ae_delay.specs.Weighing.{AllBelow, deepened, deepened_by}

abbrev pub use_at : (arrivals : List ℕ) (start item : ℕ) → Use
use_at arrivals start item = record { item = item; slack = start - unwrap_or (slice_get arrivals item) 0 }

pub item_below : (items : List ℕ) (count i : ℕ) → AllBelow items count → i < length items → get_or items i 0 < count
item_below items count i h l = h i (get_or items i 0) (slice_get-get_or items i 0 l)

pub uses_next : (arrivals : List ℕ) (start : ℕ) (items : List ℕ) (i : ℕ) → i < length items →
    uses_at arrivals start (take (i + 1) items) ≡ uses_at arrivals start (take i items) ++ use_at arrivals start (get_or items i 0) ∷ []
uses_next arrivals start items i l =
    ap (uses_at arrivals start) (take_more items i 0 l) ∙ map-append (use_at arrivals start) (take i items) (get_or items i 0 ∷ [])

-- the longest delays with one use more
pub deepened_next : (cs arrivals : List ℕ) (start : ℕ) (items now : List ℕ) (i before new : ℕ) → i < length items → get_or items i 0 < length now →
    now ≡ deepened cs (uses_at arrivals start (take i items)) → before ≡ get_or now (get_or items i 0) before →
    new ≡ max before (start - get_or arrivals (get_or items i 0) 0) → set now (get_or items i 0) new ≡ deepened cs (uses_at arrivals start (take (i + 1) items))
deepened_next cs arrivals start items now i before new l inside e read is =
    let a = get_or items i 0 in
    let us = uses_at arrivals start (take i items) in
    let u = use_at arrivals start a in
    let so : new ≡ max before (start - unwrap_or (slice_get arrivals a) 0) = rw (unwrap_or-slice_get arrivals a 0) is in
    let was : before ≡ get_or now a 0 = get_or_read now a before inside read 0 in
    let more : deepened cs (uses_at arrivals start (take (i + 1) items)) ≡ deepened_by (deepened cs us) u =
    ap (deepened cs) (uses_next arrivals start items i l) ∙ fold-append deepened_by cs us (u ∷ [])
    in
    ap (set now a) (so ∙ ap (λ b. max b u.slack) was) ∙ ap (λ xs. deepened_by xs u) e ∙ sym more

-- the latest with one item more
pub latest_next : (arrivals items : List ℕ) (i most now : ℕ) → i < length items → most ≡ latest arrivals (take i items)
    → now ≡ max most (get_or arrivals (get_or items i 0) 0) → now ≡ latest arrivals (take (i + 1) items)
latest_next arrivals items i most now l e is =
    let a = get_or items i 0 in
    let f : ℕ → ℕ = λ x. unwrap_or (slice_get arrivals x) 0 in
    let more : latest arrivals (take (i + 1) items) ≡ max (latest arrivals (take i items)) (f a) =
    ap (latest arrivals) (take_more items i 0 l) ∙ fold-append (λ most' (x : ℕ). max most' (f x)) 0 (take i items) (a ∷ []) in
    let so : now ≡ max most (unwrap_or (slice_get arrivals a) 0) = rw (unwrap_or-slice_get arrivals a 0) is in
    so ∙ ap (λ m. max m (f a)) e ∙ sym more

-- the registers of one use more
pub slack_next : (layouts : List StTree) (arrivals : List ℕ) (start : ℕ) (items : List ℕ) (i sum slack columns : ℕ) → i < length items →
    sum ≡ slack_load layouts (uses_at arrivals start (take i items)) → slack ≡ start - get_or arrivals (get_or items i 0) 0 →
    columns ≡ columns_of (item_layout layouts (get_or items i 0)) → sum + slack * columns ≡ slack_load layouts (uses_at arrivals start (take (i + 1) items))
slack_next layouts arrivals start items i sum slack columns l e is wide =
    let f : Use → ℕ = λ u. u.slack * columns_of (item_layout layouts u.item) in
    let us = uses_at arrivals start (take i items) in
    let more : slack_load layouts (uses_at arrivals start (take (i + 1) items)) ≡ slack_load layouts us + f (use_at arrivals start (get_or items i 0)) =
    ap (slack_load layouts) (uses_next arrivals start items i l)
    ∙ sum_by_push f us (use_at arrivals start (get_or items i 0))
    in
    let so : slack ≡ start - unwrap_or (slice_get arrivals (get_or items i 0)) 0 = rw (unwrap_or-slice_get arrivals (get_or items i 0) 0) is in
    rw (e, so, wide) (sym more)

-- the registers of one use fit
pub slack_small : (slack columns : ℕ) → slack < 2 ^ 32 → columns ≤ 16384 → slack * columns ≤ 70368744177664
slack_small slack columns h g =
    let most : slack * columns ≤ 4294967296 * 16384 = mul-le-mul {m₂ = 16384} (let q : slack ≤ 4294967296 = omega arith in q) g in
    omega (arith, most)
