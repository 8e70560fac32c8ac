-- How a step of the walk keeps what it keeps.
use Rattle.std.proofs.Common.{ℕ, zero, suc, ◌≡◌, ◌≢◌, ◌+◌, ◌-◌, ◌<◌, ◌≤◌, ◌⊎◌, inl, inr, List, [], ◌∷◌, ◌++◌, length, set, get_or, Some, slice_get, arith, refl, ap, sym, ◌∙◌}
use Rattle.std.proofs.lemmas.Option.{slice_get_within, slice_get-get_or, same_Some}
use Rattle.std.proofs.lemmas.Bool.{cases_eq}
use Rattle.std.proofs.lemmas.List.{length-set, length-append}
use Rattle.ae_order.specs.Graph.{Needs, IsGraph, Reaches, At_once, Through, IsOrder, HasNoLoop}
use Rattle.ae_order.specs.declared.sort.Mark.{Mark}
use Rattle.ae_order.specs.declared.sort.Mark.TheVariants.{New, At, Done}
use Rattle.ae_order.specs.Walks.{Begins, IsLooked, IsWalk}
use Rattle.ae_order.proofs.GraphLeft.{left_next}
use Rattle.ae_order.specs.Walks.{Steps}
use Rattle.ae_netlist.proofs.Gets.{get_left, get_pushed, get_push_cases, get_set_other, get_set_same}

-- what is at a place of a list that was written at a place
pub other_or_same : {X : Type 0} (xs : List X) (i n : ℕ) (y x z : X) → slice_get xs i ≡ Some z → slice_get (set xs i y) n ≡ Some x
    → ((n ≢ i) × (slice_get xs n ≡ Some x)) ⊎ ((n ≡ i) × (y ≡ x))
other_or_same xs i n y x z hz h = elim (cases_eq n i) [
  | inl e ↦ inr (e, (let q = get_set_same xs i y z hz in let r : slice_get (set xs i y) i ≡ Some x = rw e at h in same_Some y x (sym q ∙ r)))
  | inr ne ↦ inl (ne, sym (get_set_other xs i n y ne) ∙ h)
]

joined : {starts targets : List ℕ} (a b c : ℕ) → Reaches starts targets a b → Needs starts targets b c → Reaches starts targets a c
joined _ _ c (At_once a b n) m = Through a b c n (At_once b c m)
joined _ _ c (Through a d b n r) m = Through a d c n (joined d b c r m)

module _ (starts targets : List ℕ) (graph : IsGraph starts targets) where
  -- marks of the others stay, where the one that changes was not done
  done_stays : (marks : List Mark) (a : ℕ) (m m' : Mark) → slice_get marks a ≡ Some m → m ≢ Done → (b : ℕ) → slice_get marks b ≡ Some Done
      → slice_get (set marks a m') b ≡ Some Done
  done_stays marks a m m' h ne b d = get_set_other marks a b m' (λ e. ne (let q : slice_get marks a ≡ Some Done = rw (← e) d in cc)) ∙ d

  looked_stays : (marks : List Mark) (a : ℕ) (m m' : Mark) → slice_get marks a ≡ Some m → m ≢ Done → (c at : ℕ) → IsLooked starts targets marks c at
      → IsLooked starts targets (set marks a m') c at
  looked_stays marks a m m' h ne c at l = record {
    first = l.first;
    last = l.last;
    begins = l.begins;
    ends = l.ends;
    from = l.from;
    upto = l.upto;
    done = λ i b f u t. done_stays marks a m m' h ne b (l.done i b f u t);
  }

  -- a new node is put on the stack
  pub walk_pushed : (marks : List Mark) (stack order : List ℕ) (a first last : ℕ) → IsWalk starts targets marks stack order → slice_get marks a ≡ Some New
      → slice_get starts a ≡ Some first → slice_get starts (a + 1) ≡ Some last
      → ((k b : ℕ) → k + 1 ≡ length stack → slice_get stack k ≡ Some b → Needs starts targets b a)
      → IsWalk starts targets (set marks a (At first)) (stack ++ a ∷ []) order
  walk_pushed marks stack order a first last w new hf hl top = record {
    long = rw (length-set marks a (At first)) w.long;
    open_at = λ k b h. elim (get_push_cases stack a k b h) [
      | inl u ↦ let o = w.open_at k b u.0 in (
        o.0,
        get_set_other marks a b (At first) (λ e. let q : slice_get marks a ≡ Some (At o.0) = rw (← e) o.1 in cc) ∙
            o.1,
      )
      | inr u ↦ (first, rw (← u.1) (get_set_same marks a (At first) New new))
    ];
    looked = λ b at h. elim (other_or_same marks a b (At first) (At at) New new h) [
      | inl u ↦ looked_stays marks a New (At first) new (λ e. cc) b at (w.looked b at u.1)
      | inr u ↦ (let e : first ≡ at = cc in rw (u.0, ← e) record {
        first = first;
        last = last;
        begins = hf;
        ends = hl;
        from = omega arith;
        upto = (graph.stretch a first last hf hl).0;
        done = λ i c f t g. absurd (omega arith);
      })
    ];
    stacked = λ b at h. elim (other_or_same marks a b (At first) (At at) New new h) [
      | inl u ↦ let k = w.stacked b at u.1 in (k.0, get_left stack (a ∷ []) k.0 b k.1)
      | inr u ↦ (length stack, rw u.0 (get_pushed stack a))
    ];
    single = λ k l b h g. elim (get_push_cases stack a k b h) [
      | inl u ↦ elim (get_push_cases stack a l b g) [
        | inl v ↦ w.single k l b u.0 v.0
        | inr v ↦ absurd (let o = w.open_at k b u.0 in let q : slice_get marks b ≡ Some New = rw (← v.1) new in cc)
      ]
      | inr u ↦ elim (get_push_cases stack a l b g) [
        | inl v ↦ absurd (let o = w.open_at l b v.0 in let q : slice_get marks b ≡ Some New = rw (← u.1) new in cc)
        | inr v ↦ omega arith
      ]
    ];
    chain = λ k b c h g. elim (get_push_cases stack a k b h) [
      | inl u ↦ elim (get_push_cases stack a (k + 1) c g) [
        | inl v ↦ w.chain k b c u.0 v.0
        | inr v ↦ rw (← v.1) (top k b v.0 u.0)
      ]
      | inr u ↦ elim (get_push_cases stack a (k + 1) c g) [
        | inl v ↦ absurd (omega arith)
        | inr v ↦ absurd (omega arith)
      ]
    ];
    done = λ b h. elim (other_or_same marks a b (At first) Done New new h) [
      | inl u ↦ w.done b u.1
      | inr u ↦ cc
    ];
    ordered = λ p b h. done_stays marks a New (At first) new (λ e. cc) b (w.ordered p b h);
    after = w.after;
    once = w.once;
  }

  -- one target more of the top is done
  pub walk_advanced : (marks : List Mark) (stack order : List ℕ) (a at b last : ℕ) → IsWalk starts targets marks stack order → slice_get marks a ≡ Some (At at)
      → slice_get starts (a + 1) ≡ Some last → at ≢ last → slice_get targets at ≡ Some b → slice_get marks b ≡ Some Done
      → IsWalk starts targets (set marks a (At (at + 1))) stack order
  walk_advanced marks stack order a at b last w here_is hl ne target done = record {
    long = rw (length-set marks a (At (at + 1))) w.long;
    open_at = λ k c h. let o = w.open_at k c h in elim (cases_eq c a) [
      | inl e ↦ (at + 1, rw e (get_set_same marks a (At (at + 1)) (At at) here_is))
      | inr n ↦ (o.0, get_set_other marks a c (At (at + 1)) n ∙ o.1)
    ];
    looked = λ c k h. elim (other_or_same marks a c (At (at + 1)) (At k) (At at) here_is h) [
      | inl u ↦ looked_stays marks a (At at) (At (at + 1)) here_is (λ e. cc) c k (w.looked c k u.1)
      | inr u ↦ (
          let e : at + 1 ≡ k = cc in
          let l = w.looked a at here_is in
          let same : l.last ≡ last = (let q = l.ends in cc) in
          rw (u.0, ← e) record {
            first = l.first;
            last = l.last;
            begins = l.begins;
            ends = l.ends;
            from = (let f = l.from in omega arith);
            upto = (let f = l.upto in omega arith);
            done = λ i d f t g. done_stays marks a (At at) (At (at + 1)) here_is (λ e. cc) d (elim (cases_eq i at) [
              | inl s ↦ (let q : slice_get targets at ≡ Some d = rw (← s) g in let r : b ≡ d = cc in rw (← r) done)
              | inr n ↦ l.done i d f (omega arith) g
            ]);
          })
    ];
    stacked = λ c k h. elim (other_or_same marks a c (At (at + 1)) (At k) (At at) here_is h) [
      | inl u ↦ w.stacked c k u.1
      | inr u ↦ (let s = w.stacked a at here_is in (s.0, rw u.0 s.1))
    ];
    single = w.single;
    chain = w.chain;
    done = λ c h. elim (other_or_same marks a c (At (at + 1)) Done (At at) here_is h) [
      | inl u ↦ w.done c u.1
      | inr u ↦ cc
    ];
    ordered = λ p c h. done_stays marks a (At at) (At (at + 1)) here_is (λ e. cc) c (w.ordered p c h);
    after = w.after;
    once = w.once;
  }

  -- the top is done
  pub walk_popped : (marks : List Mark) (below order : List ℕ) (a at : ℕ) → IsWalk starts targets marks (below ++ a ∷ []) order
      → slice_get marks a ≡ Some (At at)
      → slice_get starts (a + 1) ≡ Some at → IsWalk starts targets (set marks a Done) below (order ++ a ∷ [])
  walk_popped marks below order a at w here_is hl =
      let place = get_pushed below a in
      let fresh : (k : ℕ) → slice_get below k ≡ Some a → ⊥ = λ k h.
      (let s : k ≡ length below = w.single k (length below) a (get_left below (a ∷ []) k a h) place in let t = slice_get_within below k a h in
      omega arith) in
      let stays : (b : ℕ) → slice_get marks b ≡ Some Done → slice_get (set marks a Done) b ≡ Some Done = done_stays marks a (At at) Done here_is (λ e. cc) in
      let l = w.looked a at here_is in
      let same : l.last ≡ at = (let q = l.ends in cc) in
      record {
        long = rw (length-set marks a Done) w.long;
        open_at = λ k b h. let o = w.open_at k b (get_left below (a ∷ []) k b h) in
            (o.0, get_set_other marks a b Done (λ e. fresh k (rw (← e) h)) ∙ o.1);
        looked = λ b k h. elim (other_or_same marks a b Done (At k) (At at) here_is h) [
          | inl u ↦ looked_stays marks a (At at) Done here_is (λ e. cc) b k (w.looked b k u.1)
          | inr u ↦ cc
        ];
        stacked = λ b k h. elim (other_or_same marks a b Done (At k) (At at) here_is h) [
          | inl u ↦ let s = w.stacked b k u.1 in elim (get_push_cases below a s.0 b s.1) [
            | inl v ↦ (s.0, v.0)
            | inr v ↦ absurd (u.0 (sym v.1))
          ]
          | inr u ↦ cc
        ];
        single = λ k m b h g. w.single k m b (get_left below (a ∷ []) k b h) (get_left below (a ∷ []) m b g);
        chain = λ k b c h g. w.chain k b c (get_left below (a ∷ []) k b h) (get_left below (a ∷ []) (k + 1) c g);
        done = λ b h. elim (other_or_same marks a b Done Done (At at) here_is h) [
          | inl u ↦ let p = w.done b u.1 in (p.0, get_left order (a ∷ []) p.0 b p.1)
          | inr u ↦ (length order, rw u.0 (get_pushed order a))
        ];
        ordered = λ p b h. elim (get_push_cases order a p b h) [
          | inl u ↦ stays b (w.ordered p b u.0)
          | inr u ↦ rw (← u.1) (get_set_same marks a Done (At at) here_is)
        ];
        after = λ p b c h n. elim (get_push_cases order a p b h) [
          | inl u ↦ let q = w.after p b c u.0 n in (q.0, q.1, get_left order (a ∷ []) q.0 c q.2)
          | inr u ↦ (
              let m : Needs starts targets a c = rw u.1 n in
              let f : m.first ≡ l.first = (let x = m.begins in let y = l.begins in cc) in
              let g : m.last ≡ at = (let x = m.ends in cc) in
              let from = m.from in let under = m.below in
              let d = w.done c (l.done m.at c (omega arith) (omega arith) m.found) in
              (d.0, (let t = slice_get_within order d.0 c d.1 in omega arith), get_left order (a ∷ []) d.0 c d.1))
        ];
        once = λ p q b h g. elim (get_push_cases order a p b h) [
          | inl u ↦ elim (get_push_cases order a q b g) [
            | inl v ↦ w.once p q b u.0 v.0
            | inr v ↦ absurd (let d = w.ordered p b u.0 in let e : slice_get marks b ≡ Some (At at) = rw (← v.1) here_is in cc)
          ]
          | inr u ↦ elim (get_push_cases order a q b g) [
            | inl v ↦ absurd (let d = w.ordered q b v.0 in let e : slice_get marks b ≡ Some (At at) = rw (← u.1) here_is in cc)
            | inr v ↦ omega arith
          ]
        ];
      }

  -- what stands in the stack reaches all that stands above it, by so many steps
  climbs : (marks : List Mark) (stack order : List ℕ) → IsWalk starts targets marks stack order → (n k a b : ℕ) → slice_get stack k ≡ Some a
      → slice_get stack (k + 1 + n) ≡ Some b → Reaches starts targets a b
  climbs marks stack order w zero k a b h g = At_once a b (w.chain k a b h (let e : k + 1 + 0 ≡ k + 1 = omega arith in rw e at g))
  climbs marks stack order w (suc n) k a b h g =
      let within = slice_get_within stack (k + 1 + suc n) b g in
      let c = get_or stack (k + 1) 0 in
      let there : slice_get stack (k + 1) ≡ Some c = slice_get-get_or stack (k + 1) 0 (omega arith) in
      let e : k + 1 + suc n ≡ k + 1 + 1 + n = omega arith in
      Through a c b (w.chain k a c h there) (climbs marks stack order w n (k + 1) c b there (rw e at g))

  -- a target of the top that is here_is reaches itself
  pub walk_loops : (marks : List Mark) (below order : List ℕ) (a at b at' last : ℕ) → IsWalk starts targets marks (below ++ a ∷ []) order
      → slice_get marks a ≡ Some (At at)
      → slice_get starts (a + 1) ≡ Some last → at ≢ last → slice_get targets at ≡ Some b → slice_get marks b ≡ Some (At at') → Reaches starts targets b b
  walk_loops marks below order a at b at' last w here_is hl ne target here_is' =
      let l = w.looked a at here_is in
      let same : l.last ≡ last = (let q = l.ends in cc) in
      let from = l.from in let upto = l.upto in
      let needs : Needs starts targets a b = record {
        first = l.first;
        last = last;
        at = at;
        begins = l.begins;
        ends = hl;
        from = l.from;
        below = omega arith;
        found = target;
      } in
      let s = w.stacked b at' here_is' in
      elim (get_push_cases below a s.0 b s.1) [
        | inl u ↦ (
            let n : ℕ = length below - (s.0 + 1) in
            let e : s.0 + 1 + n ≡ length below = (let t = u.1 in omega arith) in
            joined b a b (climbs marks (below ++ a ∷ []) order w n s.0 b a s.1 (rw e (get_pushed below a))) needs)
        | inr u ↦ rw (← u.1) (At_once a a (rw (← u.1) at needs))
      ]

-- where there is an order, what a node reaches stands before it
module _ (starts targets order : List ℕ) (o : IsOrder starts targets order) where
  pub reached_before : (p a b : ℕ) → slice_get order p ≡ Some a → Reaches starts targets a b → (q : ℕ) × (q < p) × (slice_get order q ≡ Some b)
  reached_before p _ _ h (At_once a b n) = o.after p a b h n
  reached_before p _ _ h (Through a b c n r) =
      let here = o.after p a b h n in
      let there = reached_before here.0 b c here.2 r in
      (there.0, omega arith, there.2)

  within : (a b : ℕ) → Reaches starts targets a b → a + 1 < length starts
  within _ _ (At_once a b n) = slice_get_within starts (a + 1) n.last n.ends
  within _ _ (Through a b c n r) = slice_get_within starts (a + 1) n.last n.ends

  pub none_loops : HasNoLoop starts targets
  none_loops a r =
      let here = o.every a (within a a r) in
      let there = reached_before here.0 a a here.1 r in
      let same : here.0 ≡ there.0 = o.once here.0 there.0 a here.1 there.2 in
      omega arith

-- the whole steps
module _ (starts targets : List ℕ) (graph : IsGraph starts targets) where
  begun_stays : (marks : List Mark) (a : ℕ) (m m' : Mark) → slice_get marks a ≡ Some m → m' ≢ New → (b : ℕ) → Begins marks b → Begins (set marks a m') b
  begun_stays marks a m m' h ne b was now = elim (other_or_same marks a b m' New m h now) [
    | inl u ↦ was u.1
    | inr u ↦ ne u.1
  ]

  pub begin_begun : (marks : List Mark) (a first : ℕ) (m : Mark) → slice_get marks a ≡ Some m → Begins (set marks a (At first)) a
  begin_begun marks a first m h now = let q = get_set_same marks a (At first) m h in cc

  bounds : (a first last : ℕ) → slice_get starts a ≡ Some first → slice_get starts (a + 1) ≡ Some last → first ≤ last
  bounds a first last hf hl = (graph.stretch a first last hf hl).0

  pub step_begin : (marks : List Mark) (stack order : List ℕ) (a first : ℕ) → IsWalk starts targets marks stack order → slice_get marks a ≡ Some New
      → slice_get starts a ≡ Some first
      → ((k b : ℕ) → k + 1 ≡ length stack → slice_get stack k ≡ Some b → Needs starts targets b a)
      → Steps starts targets marks (set marks a (At first)) (stack ++ a ∷ []) order
  step_begin marks stack order a first w new hf top =
      let within = slice_get_within marks a New new in
      let long = w.long in
      let last = get_or starts (a + 1) 0 in
      let hl : slice_get starts (a + 1) ≡ Some last = slice_get-get_or starts (a + 1) 0 (omega arith) in
      let e = left_next starts marks a first last New (At first) hf hl new in
      let b = bounds a first last hf hl in
      record {
        walk = walk_pushed starts targets graph marks stack order a first last w new hf hl top;
        begun = begun_stays marks a New (At first) new (λ e. cc);
        less = omega arith;
      }

  pub step_advance : (marks : List Mark) (stack order : List ℕ) (a at b last : ℕ) → IsWalk starts targets marks stack order → slice_get marks a ≡ Some (At at)
      → slice_get starts (a + 1) ≡ Some last → at ≢ last → slice_get targets at ≡ Some b → slice_get marks b ≡ Some Done
      → Steps starts targets marks (set marks a (At (at + 1))) stack order
  step_advance marks stack order a at b last w h hl ne target done =
      let l = w.looked a at h in
      let same : l.last ≡ last = (let q = l.ends in cc) in
      let upto = l.upto in
      let e = left_next starts marks a l.first last (At at) (At (at + 1)) l.begins hl h in
      record {
        walk = walk_advanced starts targets graph marks stack order a at b last w h hl ne target done;
        begun = begun_stays marks a (At at) (At (at + 1)) h (λ e. cc);
        less = omega arith;
      }

  pub step_pop : (marks : List Mark) (below order : List ℕ) (a at : ℕ) → IsWalk starts targets marks (below ++ a ∷ []) order → slice_get marks a ≡ Some (At at)
      → slice_get starts (a + 1) ≡ Some at → Steps starts targets marks (set marks a Done) below (order ++ a ∷ [])
  step_pop marks below order a at w h hl =
      let l = w.looked a at h in
      let e = left_next starts marks a l.first at (At at) Done l.begins hl h in
      record {
        walk = walk_popped starts targets graph marks below order a at w h hl;
        begun = begun_stays marks a (At at) Done h (λ e. cc);
        less = omega arith;
      }

  ended : (marks : List Mark) (a : ℕ) (m : Mark) → Begins marks a → slice_get marks a ≡ Some m → ((at : ℕ) → slice_get marks a ≡ Some (At at) → ⊥)
      → Some m ≡ Some Done
  ended marks a New b h n = absurd (b h)
  ended marks a (At at) b h n = absurd (n at h)
  ended marks a Done b h n = refl

  -- all are done where all are begun and none is in the stack
  pub walk_ends : (marks : List Mark) (order : List ℕ) → IsWalk starts targets marks [] order → ((a : ℕ) → a < length marks → Begins marks a)
      → IsOrder starts targets order
  walk_ends marks order w begun = record {
    nodes = λ p a h.
        let long = w.long in
        let l = slice_get_within marks a Done (w.ordered p a h) in
        omega arith;
    every = λ a l. (
        let long = w.long in
        let within : a < length marks = omega arith in
        let m = get_or marks a New in
        let there : slice_get marks a ≡ Some m = slice_get-get_or marks a New within in
        w.done a (there ∙ ended marks a m (begun a within) there (λ at h. (let s = w.stacked a at h in cc))));
    after = w.after;
    once = w.once;
  }

  -- where a node's targets are not all looked at there is a next one
  pub next_is : (marks : List Mark) (stack order : List ℕ) (a at last : ℕ) → IsWalk starts targets marks stack order → slice_get marks a ≡ Some (At at)
      → slice_get starts (a + 1) ≡ Some last → at ≢ last → (at < last) × (at < length targets)
  next_is marks stack order a at last w h hl ne =
      let l = w.looked a at h in
      let same : l.last ≡ last = (let q = l.ends in cc) in
      let upto = l.upto in
      let t = (graph.stretch a l.first l.last l.begins l.ends).1 in
      (omega arith, omega arith)

  -- and the top needs it
  pub top_needs : (marks : List Mark) (below stack order : List ℕ) (a at last b : ℕ) → IsWalk starts targets marks stack order → stack ≡ below ++ a ∷ []
      → slice_get marks a ≡ Some (At at)
      → slice_get starts (a + 1) ≡ Some last → at ≢ last → slice_get targets at ≡ Some b → (k c : ℕ) → k + 1 ≡ length stack → slice_get stack k ≡ Some c
      → Needs starts targets c b
  top_needs marks below stack order a at last b w is h hl ne target k c e g =
      let l = w.looked a at h in
      let from = l.from in
      let x = next_is marks stack order a at last w h hl ne in
      let n : k ≡ length below = (let q : length stack ≡ length (below ++ a ∷ []) = ap length is in let r = length-append below (a ∷ []) in omega arith) in
      let there : slice_get (below ++ a ∷ []) (length below) ≡ Some c = rw (n, is) at g in
      let same : a ≡ c = same_Some a c (sym (get_pushed below a) ∙ there) in
      rw (← same) record { first = l.first; last = last; at = at; begins = l.begins; ends = hl; from = l.from; below = x.0; found = target }
