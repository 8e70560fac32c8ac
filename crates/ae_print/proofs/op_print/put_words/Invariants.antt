use Rattle.std.proofs.Common.{◌≡◌, ◌++◌, ◌^◌, nat_lt, drop, map}
use Rattle.std.specs.Fmt.{decimal}
use Rattle.std.specs.List.{list_all}
use Rattle.std.specs.String.{string_bytes}
use Rattle.ae_print.specs.Printed.{spaced}
use Rattle.ae_print.proofs.op_print.put_words.Given as goal

abbrev pub invariant-loop-word : goal.invariant-loop-word
invariant-loop-word l = record {
  written : string_bytes l.out ++ spaced (map decimal (drop l.word-index l.words)) ≡ string_bytes l.initial.out ++ spaced (map decimal l.words);
  fit : list_all (λ w. nat_lt w (2 ^ 64)) (drop l.word-index l.words) ≡ list_all (λ w. nat_lt w (2 ^ 64)) l.words;
}
