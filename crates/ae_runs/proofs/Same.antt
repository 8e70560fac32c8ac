-- What is computed depends on the words of the names that are read alone.
use Rattle.std.proofs.Common.{ℕ, ◌≡◌, ◌==◌, ◌/◌, ◌%◌, ◌^◌, inl, inr, max, true, false, List, ◌++◌, refl, sym, ap, ◌∙◌, subst}
use Rattle.std.specs.Prelude.{if◌then◌else◌, slice_get, unwrap_or}
use Rattle.std.proofs.lemmas.Bool.{cases_Bool, cond-true, cond-false, or_parts}
use Rattle.ae_vmodule.specs.ModuleTree.{ExprTree, name, constant, place, part, index, unary, binary, choice, concat_one, concat_more, StmtTree, set, put, when, either, block_end, block_more, NetTree}
use Rattle.ae_judge.specs.Names.{Among, is_memory_name, names_in, stmt_reads}
use Rattle.ae_judge.specs.Widths.{declared_width, own_width}
use Rattle.ae_runs.specs.Values.{ModuleClock, operand_width, left_width, right_width, value_at, assigned, after_stmt}
use Rattle.ae_judge.specs.Faults.{is_misused, is_misused_in_stmt}
use Rattle.ae_judge.proofs.Members.{among_left, among_right}

-- a memory has the same words, and another name the same word
pub record IsSameName (ns : List NetTree) (c d : ModuleClock) (n : List ℕ) : Type 0 where
  pub word : is_memory_name ns n ≡ false → c.word n ≡ d.word n
  pub store : is_memory_name ns n ≡ true → c.store n ≡ d.store n

branch_word : (x y : ℕ) (a b c d : ModuleClock) (k : List ℕ) → x ≡ y → a.word k ≡ c.word k → b.word k ≡ d.word k
    → (if x == 0 then a else b).word k ≡ (if y == 0 then c else d).word k
branch_word x y a b c d k e p q = elim (cases_Bool (x == 0)) [
  | inl t ↦ ap (λ (u : ModuleClock). u.word k) (cond-true _ a b t) ∙ p ∙
      sym (ap (λ (u : ModuleClock). u.word k) (cond-true _ c d (subst (λ z. (z == 0) ≡ true) e t)))
  | inr f ↦ ap (λ (u : ModuleClock). u.word k) (cond-false _ a b f) ∙ q ∙
      sym (ap (λ (u : ModuleClock). u.word k) (cond-false _ c d (subst (λ z. (z == 0) ≡ false) e f)))
]

branch_store : (x y : ℕ) (a b c d : ModuleClock) (k : List ℕ) → x ≡ y → a.store k ≡ c.store k → b.store k ≡ d.store k
    → (if x == 0 then a else b).store k ≡ (if y == 0 then c else d).store k
branch_store x y a b c d k e p q = elim (cases_Bool (x == 0)) [
  | inl t ↦ ap (λ (u : ModuleClock). u.store k) (cond-true _ a b t) ∙ p ∙
      sym (ap (λ (u : ModuleClock). u.store k) (cond-true _ c d (subst (λ z. (z == 0) ≡ true) e t)))
  | inr f ↦ ap (λ (u : ModuleClock). u.store k) (cond-false _ a b f) ∙ q ∙
      sym (ap (λ (u : ModuleClock). u.store k) (cond-false _ c d (subst (λ z. (z == 0) ≡ false) e f)))
]

module _ (ns : List NetTree) (c d : ModuleClock) where
  index_same : (n : List ℕ) (x y : ℕ) → IsSameName ns c d n → x ≡ y
      → (if is_memory_name ns n then unwrap_or (slice_get (c.store n) x) 0 else c.word n / 2 ^ x % 2) ≡ (if is_memory_name ns n then
      unwrap_or (slice_get (d.store n) y) 0 else d.word n / 2 ^ y % 2)
  index_same n x y h e = elim (cases_Bool (is_memory_name ns n)) [
    | inl t ↦ cond-true _ _ _ t ∙ ap (λ s. unwrap_or (slice_get s x) 0) (h.store t) ∙ ap (λ k. unwrap_or (slice_get (d.store n) k) 0) e ∙
        sym (cond-true _ _ _ t)
    | inr f ↦ cond-false _ _ _ f ∙ ap (λ w. w / 2 ^ x % 2) (h.word f) ∙ ap (λ k. d.word n / 2 ^ k % 2) e ∙ sym (cond-false _ _ _ f)
  ]

  pub value_same : (e : ExprTree) → ((n : List ℕ) → Among n (names_in e) → IsSameName ns c d n) → is_misused ns e ≡ false → (w : ℕ)
      → value_at ns c w e ≡ value_at ns d w e
  value_same (name n) h r w = (h n (inl refl)).word r
  value_same (constant size value fits) h r w = refl
  value_same (place k) h r w = refl
  value_same (part n high low) h r w = rw ((h n (inl refl)).word (or_parts _ _ r).0) refl
  value_same (index n at) h r w = index_same n _ _ (h n (inl refl)) (value_same at (λ k a. h k (inr a)) (or_parts _ _ r).0 (own_width ns at))
  value_same (unary op a) h r w = rw (value_same a h r (operand_width op w (own_width ns a))) refl
  value_same (binary op a b) h r w =
      let p = or_parts _ _ r in
      rw (
        value_same a (λ n x. h n (among_left n (names_in a) (names_in b) x)) p.0 (left_width op w (own_width ns a) (own_width ns b)),
        value_same b (λ n x. h n (among_right n (names_in a) (names_in b) x)) p.1 (right_width op w (own_width ns a) (own_width ns b)),
      ) refl
  value_same (choice test a b) h r w =
      let p = or_parts _ _ r in
      let q = or_parts _ _ p.1 in
      rw (
        value_same test (λ n x. h n (among_left n (names_in test) (names_in a ++ names_in b) x)) p.0 (own_width ns test),
        value_same a (λ n x. h n (among_right n (names_in test) (names_in a ++ names_in b) (among_left n (names_in a) (names_in b) x))) q.0 w,
        value_same b (λ n x. h n (among_right n (names_in test) (names_in a ++ names_in b) (among_right n (names_in a) (names_in b) x))) q.1 w,
      ) refl
  value_same (concat_one a) h r w = value_same a h r (own_width ns a)
  value_same (concat_more a rest) h r w =
      let p = or_parts _ _ r in
      rw (
        value_same a (λ n x. h n (among_left n (names_in a) (names_in rest) x)) p.0 (own_width ns a),
        value_same rest (λ n x. h n (among_right n (names_in a) (names_in rest) x)) p.1 (own_width ns rest),
      ) refl

  pub assigned_same : (n : List ℕ) (e : ExprTree) → ((k : List ℕ) → Among k (names_in e) → IsSameName ns c d k) → is_misused ns e ≡ false
      → assigned ns c n e ≡ assigned ns d n e
  assigned_same n e h r = rw (value_same e h r (max (own_width ns e) (declared_width ns n))) refl

  -- a statement changes a name alike
  pub stmt_same : (s : StmtTree) → ((n : List ℕ) → Among n (stmt_reads s) → IsSameName ns c d n) → is_misused_in_stmt ns s ≡ false
      → (next other : ModuleClock) (k : List ℕ) → next.word k ≡ other.word k → (after_stmt ns c s next).word k ≡ (after_stmt ns d s other).word k
  stmt_same (set n value) h r next other k e = let p = or_parts _ _ r in rw (assigned_same n value h p.1, e) refl
  stmt_same (put n at value) h r next other k e = e
  stmt_same (when test taken) h r next other k e =
      let p = or_parts _ _ r in
      let t = value_same test (λ n x. h n (among_left n (names_in test) (stmt_reads taken) x)) p.0 (own_width ns test) in
      let b = stmt_same taken (λ n x. h n (among_right n (names_in test) (stmt_reads taken) x)) p.1 next other k e in
      branch_word _ _ next (after_stmt ns c taken next) other (after_stmt ns d taken other) k t e b
  stmt_same (either test taken otherwise) h r next other k e =
      let p = or_parts _ _ r in
      let q = or_parts _ _ p.1 in
      let t = value_same test (λ n x. h n (among_left n (names_in test) (stmt_reads taken ++ stmt_reads otherwise) x)) p.0 (own_width ns test) in
      let a = stmt_same taken (λ n x. h n (among_right n (names_in test) (stmt_reads taken ++ stmt_reads otherwise)
      (among_left n (stmt_reads taken) (stmt_reads otherwise) x))) q.0 next other k e in
      let b = stmt_same otherwise (λ n x. h n (among_right n (names_in test) (stmt_reads taken ++ stmt_reads otherwise)
      (among_right n (stmt_reads taken) (stmt_reads otherwise) x))) q.1 next other k e in
      branch_word _ _ (after_stmt ns c otherwise next) (after_stmt ns c taken next) (after_stmt ns d otherwise other) (after_stmt ns d taken other) k t b a
  stmt_same block_end h r next other k e = e
  stmt_same (block_more first rest) h r next other k e =
      let p = or_parts _ _ r in
      stmt_same rest (λ n x. h n (among_right n (stmt_reads first) (stmt_reads rest) x)) p.1 (after_stmt ns c first next) (after_stmt ns d first other) k
      (stmt_same first (λ n x. h n (among_left n (stmt_reads first) (stmt_reads rest) x)) p.0 next other k e)

  pub stmt_same_store : (s : StmtTree) → ((n : List ℕ) → Among n (stmt_reads s) → IsSameName ns c d n) → is_misused_in_stmt ns s ≡ false
      → (next other : ModuleClock) (k : List ℕ) → next.store k ≡ other.store k → (after_stmt ns c s next).store k ≡ (after_stmt ns d s other).store k
  stmt_same_store (set n value) h r next other k e = e
  stmt_same_store (put n at value) h r next other k e =
      let o = or_parts _ _ r in
      let p = or_parts _ _ o.1 in
      rw (
        assigned_same n value (λ i x. h i (among_right i (names_in at) (names_in value) x)) p.1,
        value_same at (λ i x. h i (among_left i (names_in at) (names_in value) x)) p.0 (own_width ns at),
        e,
      ) refl
  stmt_same_store (when test taken) h r next other k e =
      let p = or_parts _ _ r in
      let t = value_same test (λ n x. h n (among_left n (names_in test) (stmt_reads taken) x)) p.0 (own_width ns test) in
      let b = stmt_same_store taken (λ n x. h n (among_right n (names_in test) (stmt_reads taken) x)) p.1 next other k e in
      branch_store _ _ next (after_stmt ns c taken next) other (after_stmt ns d taken other) k t e b
  stmt_same_store (either test taken otherwise) h r next other k e =
      let p = or_parts _ _ r in
      let q = or_parts _ _ p.1 in
      let t = value_same test (λ n x. h n (among_left n (names_in test) (stmt_reads taken ++ stmt_reads otherwise) x)) p.0 (own_width ns test) in
      let a = stmt_same_store taken (λ n x. h n (among_right n (names_in test) (stmt_reads taken ++ stmt_reads otherwise)
      (among_left n (stmt_reads taken) (stmt_reads otherwise) x))) q.0 next other k e in
      let b = stmt_same_store otherwise (λ n x. h n (among_right n (names_in test) (stmt_reads taken ++ stmt_reads otherwise)
      (among_right n (stmt_reads taken) (stmt_reads otherwise) x))) q.1 next other k e in
      branch_store _ _ (after_stmt ns c otherwise next) (after_stmt ns c taken next) (after_stmt ns d otherwise other) (after_stmt ns d taken other) k t b a
  stmt_same_store block_end h r next other k e = e
  stmt_same_store (block_more first rest) h r next other k e =
      let p = or_parts _ _ r in
      stmt_same_store rest (λ n x. h n (among_right n (stmt_reads first) (stmt_reads rest) x)) p.1 (after_stmt ns c first next) (after_stmt ns d first other) k
      (stmt_same_store first (λ n x. h n (among_left n (stmt_reads first) (stmt_reads rest) x)) p.0 next other k e)
