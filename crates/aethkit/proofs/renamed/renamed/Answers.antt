use Rattle.std.proofs.Common.{◌≡◌, ℕ, List, ◌++◌, ◌∙◌, append_assoc, codes}
use Rattle.std.proofs.lemmas.Str.Pattern.{split_text_parts}
use Rattle.aethkit.proofs.renamed.renamed.Goals as goal

pieces : (a b c d e v w x y z : List ℕ) → v ≡ a → w ≡ v ++ b → x ≡ w ++ c → y ≡ x ++ d → z ≡ y ++ e → z ≡ a ++ (b ++ (c ++ (d ++ e)))
pieces a b c d e v w x y z p q r s t =
    let h : z ≡ (((a ++ b) ++ c) ++ d) ++ e = cc in
    h ∙ simp append_assoc

pub returns : goal.returns
returns c =
    let parts = split_text_parts (codes "module aeth (") c.args.text.now c.split_once.result c.split_once.ensures.cases in
    let was = rw c.in-Some.is at parts in
    record {
      before = c.in-Some.before.now;
      behind = c.in-Some.behind.now;
      was = was;
      is = pieces _ _ _ _ _ _ _ _ _ _ c.in_ok-out.ensures.ok
          c.in_ok-push_str.ensures.bytes c.in_ok-push_str-2.ensures.bytes c.in_ok-push_str-3.ensures.bytes c.in_ok-push_str-4.ensures.bytes;
    }
