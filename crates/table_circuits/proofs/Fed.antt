-- Circuits with inputs of given widths, and blocks of bytes.
use Rattle.std.proofs.Common.{ℕ, zero, suc, ◌≡◌, ◌*◌, ◌<◌, List, [], ◌∷◌, length, map, Some, slice_get, get_or, arith, refl}
use Rattle.std.specs.Option.{option_map}
use Rattle.table_circuits.specs.Bytes.{byte_kind}
use Rattle.ae_seqtype.specs.SeqTree.{repeated}
use Rattle.ae_seqtype.specs.ValueTree.{FitKinds}

-- lists that agree at each place
pub all_same : {A : Type 0} (f : A → ℕ) (xs : List A) (ys : List ℕ) → length xs ≡ length ys
    → ((k : ℕ) → k < length ys → option_map f (slice_get xs k) ≡ Some (get_or ys k 0)) → map f xs ≡ ys
all_same f [] [] e h = refl
all_same f [] (y ∷ ys) e h = absurd (omega arith)
all_same f (x ∷ xs) [] e h = absurd (omega arith)
all_same f (x ∷ xs) (y ∷ ys) e h =
    let first : Some (f x) ≡ Some y = h 0 (omega arith) in
    let here : f x ≡ y = cc in
    let others : map f xs ≡ ys = all_same f xs ys (omega arith) (λ k l. h (suc k) (omega arith)) in
    cc

-- pairs of bytes are blocks of two
pub bytes_fit : (n : ℕ) (ws : List ℕ) → length ws ≡ n * 2 → ((k : ℕ) → k < length ws → get_or ws k 0 < 256)
    → FitKinds ws (repeated n (byte_kind ∷ byte_kind ∷ []))
bytes_fit zero [] e h = tt
bytes_fit zero (x ∷ ws) e h = absurd (omega arith)
bytes_fit (suc n) [] e h = absurd (omega arith)
bytes_fit (suc n) (x ∷ []) e h = absurd (omega arith)
bytes_fit (suc n) (x ∷ y ∷ ws) e h =
    (h 0 (omega arith), (h 1 (omega arith), bytes_fit n ws (omega arith) (λ k l. h (suc (suc k)) (omega arith))))
