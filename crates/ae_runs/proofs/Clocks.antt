-- The clock of a module without faults is an input, and no other name.
use Rattle.std.proofs.Common.{ℕ, suc, ◌≡◌, inl, inr, true, false, List, [], ◌∷◌, Option, Some, None, slice_get, refl, sym, ap, subst}
use Rattle.std.specs.Prelude.{codes, bytes_eq, ◌==◌, ◌&&◌}
use Rattle.std.proofs.lemmas.Bool.{cases_Bool, both_ways, cond-true, cond-false, and_parts, or_parts}
use Rattle.ae_vmodule.specs.declared.module.NetKind.{NetKind}
use Rattle.ae_vmodule.specs.declared.module.NetKind.TheVariants.{Input, Wire, OutWire, Reg, OutReg, Memory}
use Rattle.ae_vmodule.specs.ModuleTree.{StmtTree, NetTree, ItemTree, nets, assigns, always, ModuleTree}
use Rattle.ae_judge.specs.Names.{Among, clock_or, first_clock, is_clock, is_input_kind, is_named, is_one_bit_input, is_output_kind, is_wire_kind, passes}
use Rattle.ae_judge.specs.Regular.{IsRegular}
use Rattle.ae_judge.proofs.Members.{same_bytes}
use Rattle.ae_runs.proofs.Declared.{found_net, not_false, not_true, right_item, wire_no_input}

pub output_no_input : (k : NetKind) → is_output_kind k ≡ true → is_input_kind k ≡ false
output_no_input Input t = absurd (cc)
output_no_input Wire t = refl
output_no_input OutWire t = refl
output_no_input Reg t = refl
output_no_input OutReg t = refl
output_no_input (Memory depth) t = refl

module _ (m : ModuleTree) (ok : IsRegular m) where
  -- the clock is an input
  one_bit_input : (n : List ℕ) (x : NetTree) → Among x m.nets → x.name ≡ n → is_one_bit_input m.nets n ≡ true → is_input_kind x.kind ≡ true
  one_bit_input n x a e h =
      let r : (is_input_kind x.kind && (x.width == 1)) ≡ true = subst (λ (o : Option NetTree). passes (λ y. is_input_kind y.kind && (y.width == 1)) o ≡ true)
      (found_net m ok n x a e) h in
      (and_parts (is_input_kind x.kind) (x.width == 1) r).0

  first_always : (items : List ItemTree) (n : List ℕ) → first_clock items ≡ Some n → (j : ℕ) × (body : StmtTree) × (slice_get items j ≡ Some (always n body))
  first_always [] n h = absurd (let e : None ≡ Some n = h in cc)
  first_always (nets drives ∷ items) n h = let r = first_always items n h in (suc r.0, r.1, r.2)
  first_always (assigns drives ∷ items) n h = let r = first_always items n h in (suc r.0, r.1, r.2)
  first_always (always clock body ∷ items) n h = let e : Some clock ≡ Some n = h in let s : clock ≡ n = cc in
      (0, body, ap (λ (u : List ℕ). Some (always u body)) s)

  pub clock_input : (x : NetTree) → Among x m.nets → is_clock m x.name ≡ true → is_input_kind x.kind ≡ true
  unfolding is_clock
  clock_input x a h = by_name (first_clock m.items) refl h
    where
      by_name : (o : Option (List ℕ)) → first_clock m.items ≡ o → is_named x.name (clock_or m.nets o) ≡ true → is_input_kind x.kind ≡ true
      by_name (Some n) e t =
          let r = first_always m.items n e in
          let right = right_item m ok r.0 (always n r.1) r.2 in
          let one : is_one_bit_input m.nets n ≡ true = not_false _ (or_parts _ _ (or_parts _ _ right).1).0 in
          one_bit_input n x a (sym (same_bytes n x.name t)) one
      by_name None e t = elim (cases_Bool (is_one_bit_input m.nets (codes "clk"))) [
        | inl b ↦
            let u : bytes_eq (codes "clk") x.name ≡ true = subst (λ (o : Option (List ℕ)). is_named x.name o ≡ true)
            (cond-true _ (Some (codes "clk")) None b) t in
            one_bit_input (codes "clk") x a (sym (same_bytes (codes "clk") x.name u)) b
        | inr b ↦ absurd (let u : is_named x.name None ≡ true = subst (λ (o : Option (List ℕ)). is_named x.name o ≡ true)
            (cond-false _ (Some (codes "clk")) None b) t in cc)
      ]

  pub no_input_no_clock : (x : NetTree) → Among x m.nets → is_input_kind x.kind ≡ false → is_clock m x.name ≡ false
  no_input_no_clock x a h = not_true _ (λ t. both_ways _ h (clock_input x a t))

  pub wire_no_clock : (x : NetTree) → Among x m.nets → is_wire_kind x.kind ≡ true → is_clock m x.name ≡ false
  wire_no_clock x a w = no_input_no_clock x a (wire_no_input x.kind w)

  pub output_no_clock : (x : NetTree) → Among x m.nets → is_output_kind x.kind ≡ true → is_clock m x.name ≡ false
  output_no_clock x a t = no_input_no_clock x a (output_no_input x.kind t)
