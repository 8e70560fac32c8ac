-- The names that the symbols of an expression read, and misuse, are those of its tree.
use Rattle.std.proofs.Common.{ℕ, ◌≡◌, Bool, true, false, ◌||◌, List, [], ◌∷◌, ◌++◌, append-nil, append_assoc, refl, sym, ap, ◌∙◌}
use Rattle.std.specs.List.{list_any}
use Rattle.ae_vmodule.specs.Numbered as n
use Rattle.ae_vmodule.specs.Numbered.{NumberedExpr}
use Rattle.ae_vmodule.specs.Postfix.{coded, name_read}
use Rattle.ae_vmodule.specs.View.{expr_tree, word_at}
use Rattle.ae_vmodule.specs.declared.symbols.Symbol.{Symbol}
use Rattle.ae_vmodule.specs.declared.symbols.Symbol.TheVariants.{Index}
use Rattle.ae_vmodule.specs.ModuleTree.{NetTree}
use Rattle.ae_judge.specs.Faults.{is_misused, is_place}
use Rattle.ae_judge.specs.Names.{names_in}
use Rattle.ae_judge.specs.Symbols.{any_misread, is_misread, word_read, words_read}
use Rattle.ae_judge.proofs.Loops.{or_assoc, or_false}
use Rattle.ae_judge.proofs.PlaceLemmas.{any_append}

module _ (test : List ℕ → Bool) (ws : List (List ℕ)) where
  abbrev among : List Symbol → Bool
  among ss = list_any test (words_read ws ss)

  among_two : (xs ys : List Symbol) → among (xs ++ ys) ≡ (among xs || among ys)
  among_two [] ys = refl
  among_two (x ∷ xs) ys =
      any_append test (word_read ws (name_read x)) (words_read ws (xs ++ ys)) ∙ ap (λ b. list_any test (word_read ws (name_read x)) || b) (among_two xs ys)
      ∙ sym (or_assoc (list_any test (word_read ws (name_read x))) (among xs) (among ys))
      ∙ ap (λ b. b || among ys) (sym (any_append test (word_read ws (name_read x)) (words_read ws xs)))

  or_turned : (a b : Bool) → (a || b) ≡ (b || a)
  or_turned true true = refl
  or_turned true false = refl
  or_turned false true = refl
  or_turned false false = refl

  -- one operand, and an operator that reads nothing
  one : (xs : List Symbol) (s : Symbol) (names : List (List ℕ)) → among (s ∷ []) ≡ false → among xs ≡ list_any test names
      → among (xs ++ s ∷ []) ≡ list_any test names
  one xs s names none h = among_two xs (s ∷ []) ∙ ap (λ b. among xs || b) none ∙ or_false (among xs) ∙ h

  both : (xs ys : List Symbol) (ms ns : List (List ℕ)) → among xs ≡ list_any test ms → among ys ≡ list_any test ns
      → among (xs ++ ys) ≡ list_any test (ms ++ ns)
  both xs ys ms ns g h = among_two xs ys ∙ (λ i. g i || h i) ∙ sym (any_append test ms ns)

  pub read_coded : (t : NumberedExpr) → among (coded t) ≡ list_any test (names_in (expr_tree ws t))
  read_coded (n.name k) = refl
  read_coded (n.constant size value fits) = refl
  read_coded (n.place p) = refl
  read_coded (n.part k high low) = refl
  read_coded (n.index k at) =
      among_two (coded at) (Index k ∷ []) ∙ (λ i. read_coded at i || or_false (test (word_at ws k)) i)
      ∙ or_turned (list_any test (names_in (expr_tree ws at))) (test (word_at ws k))
  read_coded (n.unary op a) = one (coded a) _ (names_in (expr_tree ws a)) refl (read_coded a)
  read_coded (n.binary op a b) =
      both (coded a) _ (names_in (expr_tree ws a)) (names_in (expr_tree ws b)) (read_coded a)
      (one (coded b) _ (names_in (expr_tree ws b)) refl (read_coded b))
  read_coded (n.choice test a b) =
      both (coded test) _ (names_in (expr_tree ws test)) (names_in (expr_tree ws a) ++ names_in (expr_tree ws b)) (read_coded test)
      (both (coded a) _ (names_in (expr_tree ws a)) (names_in (expr_tree ws b)) (read_coded a)
      (one (coded b) _ (names_in (expr_tree ws b)) refl (read_coded b)))
  read_coded (n.concat_one a) = one (coded a) _ (names_in (expr_tree ws a)) refl (read_coded a)
  read_coded (n.concat_more a rest) =
      both (coded a) _ (names_in (expr_tree ws a)) (names_in (expr_tree ws rest)) (read_coded a)
      (one (coded rest) _ (names_in (expr_tree ws rest)) refl (read_coded rest))

module _ (ns : List NetTree) (ws : List (List ℕ)) where
  abbrev bad : NumberedExpr → Bool
  bad t = is_misused ns (expr_tree ws t)

  abbrev last : NumberedExpr → Bool
  last t = is_place (expr_tree ws t)

  abbrev behind : Bool → List Symbol → Bool
  behind placed ss = any_misread ns ws placed ss

  -- what the symbols of an expression misuse, and those behind them
  pub misread_front : (placed : Bool) (t : NumberedExpr) (rest : List Symbol) → behind placed (coded t ++ rest) ≡ (bad t || behind (last t) rest)
  misread_front placed (n.name k) rest = refl
  misread_front placed (n.constant size value fits) rest = refl
  misread_front placed (n.place p) rest = refl
  misread_front placed (n.part k high low) rest = refl
  misread_front placed (n.index k at) rest =
      ap (behind placed) (append_assoc (coded at) (Index k ∷ []) rest) ∙ misread_front placed at (Index k ∷ rest)
      ∙ sym (or_assoc (bad at) (is_misread ns ws (last at) (Index k)) (behind false rest))
  misread_front placed (n.unary op a) rest = ap (behind placed) (append_assoc (coded a) _ rest) ∙ misread_front placed a _
  misread_front placed (n.binary op a b) rest =
      ap (behind placed) (append_assoc (coded a) (coded b ++ _) rest) ∙ misread_front placed a ((coded b ++ _) ++ rest)
      ∙ ap (λ x. bad a || x) (ap (behind (last a)) (append_assoc (coded b) _ rest) ∙ misread_front (last a) b _)
      ∙ sym (or_assoc (bad a) (bad b) (behind false rest))
  misread_front placed (n.choice test a b) rest =
      ap (behind placed) (append_assoc (coded test) (coded a ++ (coded b ++ _)) rest) ∙ misread_front placed test ((coded a ++ (coded b ++ _)) ++ rest)
      ∙ ap (λ x. bad test || x) (ap (behind (last test)) (append_assoc (coded a) (coded b ++ _) rest) ∙ misread_front (last test) a ((coded b ++ _) ++ rest)
      ∙ ap (λ x. bad a || x) (ap (behind (last a)) (append_assoc (coded b) _ rest) ∙ misread_front (last a) b _))
      ∙ ap (λ x. bad test || x) (sym (or_assoc (bad a) (bad b) (behind false rest)))
      ∙ sym (or_assoc (bad test) (bad a || bad b) (behind false rest))
  misread_front placed (n.concat_one a) rest = ap (behind placed) (append_assoc (coded a) _ rest) ∙ misread_front placed a _
  misread_front placed (n.concat_more a b) rest =
      ap (behind placed) (append_assoc (coded a) (coded b ++ _) rest) ∙ misread_front placed a ((coded b ++ _) ++ rest)
      ∙ ap (λ x. bad a || x) (ap (behind (last a)) (append_assoc (coded b) _ rest) ∙ misread_front (last a) b _)
      ∙ sym (or_assoc (bad a) (bad b) (behind false rest))

  pub misread_coded : (t : NumberedExpr) → behind false (coded t) ≡ bad t
  misread_coded t = ap (behind false) (sym (append-nil (coded t))) ∙ misread_front false t [] ∙ or_false (bad t)
