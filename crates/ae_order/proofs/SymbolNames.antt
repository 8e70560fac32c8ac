-- The names that the symbols of an expression read, and those of its tree.
use Rattle.std.proofs.Common.{ℕ, ◌≡◌, List, [], ◌∷◌, ◌++◌, append-nil, append_assoc, refl, sym, ap, ◌∙◌, inl, inr, subst}
use Rattle.ae_vmodule.specs.Numbered as n
use Rattle.ae_vmodule.specs.Numbered.{NumberedExpr}
use Rattle.ae_vmodule.specs.ModuleTree.{ExprTree, name, constant, place, part, index, unary, binary, choice, concat_one, concat_more, NetTree}
use Rattle.ae_vmodule.specs.Postfix.{coded, name_read}
use Rattle.ae_vmodule.specs.View.{expr_tree, word_at}
use Rattle.ae_vmodule.specs.declared.symbols.Symbol.{Symbol}
use Rattle.ae_judge.specs.Names.{Among, names_in}
use Rattle.ae_judge.specs.Symbols.{word_read, words_read}
use Rattle.ae_judge.proofs.Members.{among_left, among_right, among_split}
use Rattle.ae_runs.specs.Named.{IsNamed}
use Rattle.ae_order.specs.Drives.{names_read}
use Rattle.ae_order.specs.Sound.{IsSound}

module _ (ws : List (List ℕ)) where
  words_two : (xs ys : List Symbol) → words_read ws (xs ++ ys) ≡ words_read ws xs ++ words_read ws ys
  words_two [] ys = refl
  words_two (x ∷ xs) ys =
      ap (λ zs. word_read ws (name_read x) ++ zs) (words_two xs ys)
      ∙ sym (append_assoc (word_read ws (name_read x)) (words_read ws xs) (words_read ws ys))

  -- an operand, and an operator that reads nothing
  one : (xs : List Symbol) (s : Symbol) (ns : List (List ℕ)) → words_read ws (s ∷ []) ≡ [] → words_read ws xs ≡ ns → words_read ws (xs ++ s ∷ []) ≡ ns
  one xs s ns none h = words_two xs (s ∷ []) ∙ ap (λ zs. words_read ws xs ++ zs) none ∙ append-nil (words_read ws xs) ∙ h

  both : (xs ys : List Symbol) (ms ns : List (List ℕ)) → words_read ws xs ≡ ms → words_read ws ys ≡ ns → words_read ws (xs ++ ys) ≡ ms ++ ns
  both xs ys ms ns g h = words_two xs ys ∙ (λ i. g i ++ h i)

  pub coded_names : (t : NumberedExpr) → words_read ws (coded t) ≡ names_read (expr_tree ws t)
  coded_names (n.name k) = refl
  coded_names (n.constant size value fits) = refl
  coded_names (n.place p) = refl
  coded_names (n.part k high low) = refl
  coded_names (n.index k at) = both (coded at) (_ ∷ []) (names_read (expr_tree ws at)) (word_at ws k ∷ []) (coded_names at) refl
  coded_names (n.unary op a) = one (coded a) _ (names_read (expr_tree ws a)) refl (coded_names a)
  coded_names (n.binary op a b) =
      both (coded a) _ (names_read (expr_tree ws a)) (names_read (expr_tree ws b)) (coded_names a)
      (one (coded b) _ (names_read (expr_tree ws b)) refl (coded_names b))
  coded_names (n.choice test a b) =
      both (coded test) _ (names_read (expr_tree ws test)) (names_read (expr_tree ws a) ++ names_read (expr_tree ws b)) (coded_names test)
      (both (coded a) _ (names_read (expr_tree ws a)) (names_read (expr_tree ws b)) (coded_names a)
      (one (coded b) _ (names_read (expr_tree ws b)) refl (coded_names b)))
  coded_names (n.concat_one a) = one (coded a) _ (names_read (expr_tree ws a)) refl (coded_names a)
  coded_names (n.concat_more a rest) =
      both (coded a) _ (names_read (expr_tree ws a)) (names_read (expr_tree ws rest)) (coded_names a)
      (one (coded rest) _ (names_read (expr_tree ws rest)) refl (coded_names rest))

module _ (x : List ℕ) where
  -- in either order the same names are read
  pub read_among : (e : ExprTree) → Among x (names_read e) → Among x (names_in e)
  read_among (name k) h = h
  read_among (constant size value fits) h = h
  read_among (place k) h = h
  read_among (part k high low) h = h
  read_among (index k at) h =
      elim (among_split x (names_read at) (k ∷ []) h) [
        | inl a ↦ inr (read_among at a)
        | inr b ↦ elim b [ inl e ↦ inl e | inr c ↦ absurd c ]
      ]
  read_among (unary op a) h = read_among a h
  read_among (binary op a b) h =
      elim (among_split x (names_read a) (names_read b) h) [
        | inl l ↦ among_left x (names_in a) (names_in b) (read_among a l)
        | inr r ↦ among_right x (names_in a) (names_in b) (read_among b r)
      ]
  read_among (choice test a b) h =
      elim (among_split x (names_read test) (names_read a ++ names_read b) h) [
        | inl l ↦ among_left x (names_in test) (names_in a ++ names_in b) (read_among test l)
        | inr r ↦ among_right x (names_in test) (names_in a ++ names_in b) (
            elim (among_split x (names_read a) (names_read b) r) [
              | inl l ↦ among_left x (names_in a) (names_in b) (read_among a l)
              | inr r ↦ among_right x (names_in a) (names_in b) (read_among b r)
            ])
      ]
  read_among (concat_one a) h = read_among a h
  read_among (concat_more a rest) h =
      elim (among_split x (names_read a) (names_read rest) h) [
        | inl l ↦ among_left x (names_in a) (names_in rest) (read_among a l)
        | inr r ↦ among_right x (names_in a) (names_in rest) (read_among rest r)
      ]

  pub among_read : (e : ExprTree) → Among x (names_in e) → Among x (names_read e)
  among_read (name k) h = h
  among_read (constant size value fits) h = h
  among_read (place k) h = h
  among_read (part k high low) h = h
  among_read (index k at) h =
      elim h [
        | inl e ↦ among_right x (names_read at) (k ∷ []) (inl e)
        | inr a ↦ among_left x (names_read at) (k ∷ []) (among_read at a)
      ]
  among_read (unary op a) h = among_read a h
  among_read (binary op a b) h =
      elim (among_split x (names_in a) (names_in b) h) [
        | inl l ↦ among_left x (names_read a) (names_read b) (among_read a l)
        | inr r ↦ among_right x (names_read a) (names_read b) (among_read b r)
      ]
  among_read (choice test a b) h =
      elim (among_split x (names_in test) (names_in a ++ names_in b) h) [
        | inl l ↦ among_left x (names_read test) (names_read a ++ names_read b) (among_read test l)
        | inr r ↦ among_right x (names_read test) (names_read a ++ names_read b) (
            elim (among_split x (names_in a) (names_in b) r) [
              | inl l ↦ among_left x (names_read a) (names_read b) (among_read a l)
              | inr r ↦ among_right x (names_read a) (names_read b) (among_read b r)
            ])
      ]
  among_read (concat_one a) h = among_read a h
  among_read (concat_more a rest) h =
      elim (among_split x (names_in a) (names_in rest) h) [
        | inl l ↦ among_left x (names_read a) (names_read rest) (among_read a l)
        | inr r ↦ among_right x (names_read a) (names_read rest) (among_read rest r)
      ]

module _ (ns : List NetTree) where
  -- what a name stands for, where it is the one
  named_as : (k x : List ℕ) → k ≡ x → IsNamed ns k → IsNamed ns x
  named_as k x e h = subst (IsNamed ns) e h

  only : (k x : List ℕ) → Among x (k ∷ []) → IsNamed ns k → IsNamed ns x
  only k x a h = elim a [ inl e ↦ named_as k x e h | inr b ↦ absurd b ]

  -- those of an index, by those of its place
  inside : (k x : List ℕ) (at : ExprTree) → (IsSound ns at → IsNamed ns x) → IsSound ns (index k at) → Among x (names_read at) → IsNamed ns x
  inside k x (name j) f s b = f s.1.sound
  inside k x (constant size value fits) f s b = absurd b
  inside k x (place j) f s b = absurd b
  inside k x (part j high low) f s b = f s.1.sound
  inside k x (index j it) f s b = f s.1.sound
  inside k x (unary op c) f s b = f s.1.sound
  inside k x (binary op c d) f s b = f s.1.sound
  inside k x (choice test c d) f s b = f s.1.sound
  inside k x (concat_one c) f s b = f s.1.sound
  inside k x (concat_more c d) f s b = f s.1.sound

  -- the names that an expression reads are declared, where it has a value
  pub sound_named : (e : ExprTree) (x : List ℕ) → IsSound ns e → Among x (names_read e) → IsNamed ns x
  sound_named (name k) x s a = only k x a s.named
  sound_named (constant size value fits) x s a = absurd a
  sound_named (place k) x s a = absurd a
  sound_named (part k high low) x s a = only k x a s.0.named
  sound_named (index k at) x s a =
      elim (among_split x (names_read at) (k ∷ []) a) [
        | inl b ↦ inside k x at (λ t. sound_named at x t b) s b
        | inr b ↦ only k x b s.0
      ]
  sound_named (unary op c) x s a = sound_named c x s a
  sound_named (binary op c d) x s a =
      elim (among_split x (names_read c) (names_read d) a) [
        | inl l ↦ sound_named c x s.0 l
        | inr r ↦ sound_named d x s.1 r
      ]
  sound_named (choice test c d) x s a =
      elim (among_split x (names_read test) (names_read c ++ names_read d) a) [
        | inl l ↦ sound_named test x s.0 l
        | inr r ↦ elim (among_split x (names_read c) (names_read d) r) [
          | inl l ↦ sound_named c x s.1 l
          | inr r ↦ sound_named d x s.2 r
        ]
      ]
  sound_named (concat_one c) x s a = sound_named c x s a
  sound_named (concat_more c d) x s a =
      elim (among_split x (names_read c) (names_read d) a) [
        | inl l ↦ sound_named c x s.0 l
        | inr r ↦ sound_named d x s.1 r
      ]
