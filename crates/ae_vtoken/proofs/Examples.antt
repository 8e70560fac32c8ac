-- The definitions on small texts, by computation.
use Rattle.std.proofs.Common.{◌≡◌, [], refl, Some, None, true, false}
use Rattle.std.specs.Prelude.{codes}
use Rattle.ae_vtoken.specs.Tables.{signs, keys, unused_0, unused_1, unused_2, unused_3, unused_4, unused_5, unused_6, unused_7, unused_8, unused_9}
use Rattle.ae_vtoken.specs.Tokens.{after_gap, Between, token_of, Zero, Decimal, Unused, Name, Mark, Sized, Word}
use Rattle.ae_vtoken.specs.declared.token.Key.TheVariants.{EndModule}
use Rattle.ae_vtoken.specs.declared.token.Sign.TheVariants.{AtMost, XnorLeft, XnorRight}

closed : after_gap Between (codes " /* a */ b") ≡ codes "b"
closed = refl

overlapping : after_gap Between (codes "/*/ b") ≡ codes "/*/ b"
overlapping = refl

shortest : after_gap Between (codes "/**/b") ≡ codes "b"
shortest = refl

second_open : after_gap Between (codes "/* a *//* b") ≡ codes "/* b"
second_open = refl

line_hides : after_gap Between (codes "// /* a") ≡ []
line_hides = refl

line_in_block : after_gap Between (codes "/* // */ b") ≡ codes "b"
line_in_block = refl

slash : after_gap Between (codes " /b") ≡ codes "/b"
slash = refl

return_in_line : after_gap Between (codes "// a\rb\n c") ≡ codes "c"
return_in_line = refl

pub zero_alone : token_of (codes "0") ≡ Some Zero
unfolding token_of
zero_alone = refl

two_zeros : token_of (codes "00") ≡ Some (Decimal 0)
unfolding token_of
two_zeros = refl

greatest : token_of (codes "99999999999999999999") ≡ Some (Decimal 4294967295)
unfolding token_of
greatest = refl

fifteen : token_of (codes "4'd15") ≡ Some (Sized 4 15 true)
unfolding token_of
fifteen = refl

sixteen : token_of (codes "4'd16") ≡ Some (Sized 0 0 false)
unfolding token_of
sixteen = refl

too_wide : token_of (codes "65'd1") ≡ Some (Sized 0 0 false)
unfolding token_of
too_wide = refl

hexadecimal : token_of (codes "16'HfF_0_") ≡ Some (Sized 16 4080 true)
unfolding token_of
hexadecimal = refl

no_octal_eight : token_of (codes "4'o8") ≡ None
unfolding token_of
no_octal_eight = refl

no_size_zero : token_of (codes "04'd1") ≡ None
unfolding token_of
no_size_zero = refl

dollar : token_of (codes "a_$1") ≡ Some (Name (codes "a_$1"))
unfolding token_of keys unused_0 unused_1 unused_2 unused_3 unused_4 unused_5 unused_6 unused_7 unused_8 unused_9
dollar = refl

no_dollar_first : token_of (codes "$a") ≡ None
unfolding token_of signs
no_dollar_first = refl

pub key : token_of (codes "endmodule") ≡ Some (Word EndModule)
unfolding token_of keys
key = refl

reserved : token_of (codes "xnor") ≡ Some Unused
unfolding token_of keys unused_0 unused_1 unused_2 unused_3 unused_4 unused_5 unused_6 unused_7 unused_8 unused_9
reserved = refl

case_counts : token_of (codes "Wire") ≡ Some (Name (codes "Wire"))
unfolding token_of keys unused_0 unused_1 unused_2 unused_3 unused_4 unused_5 unused_6 unused_7 unused_8 unused_9
case_counts = refl

pub at_most : token_of (codes "<=") ≡ Some (Mark AtMost)
unfolding token_of signs
at_most = refl

less_and_equals : token_of (codes "< =") ≡ None
unfolding token_of signs
less_and_equals = refl

xnor_left : token_of (codes "^~") ≡ Some (Mark XnorLeft)
unfolding token_of signs
xnor_left = refl

xnor_right : token_of (codes "~^") ≡ Some (Mark XnorRight)
unfolding token_of signs
xnor_right = refl
