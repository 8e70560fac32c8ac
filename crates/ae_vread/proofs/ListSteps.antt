-- What reading a list gives where its parts are read.
use Rattle.std.proofs.Common.{Bool, ◌≡◌, ℕ, suc, ◌+◌, ◌-◌, ◌<◌, ◌≤◌, List, [], ◌∷◌, ◌++◌, Option, Some, None, ap, ◌∙◌, subst, arith, length, append_assoc}
use Rattle.std.specs.Prelude.{IfSome}
use Rattle.std.proofs.lemmas.List.{map-append}
use Rattle.ae_vtoken.specs.Tokens.{TokenTree}
use Rattle.ae_vtoken.specs.declared.token.Sign.TheVariants.{OpenBracket, CloseBracket, Colon, Comma}
use Rattle.ae_vmodule.specs.ModuleTree.{NetTree}
use Rattle.ae_vmodule.specs.declared.module.VNet.{VNet}
use Rattle.ae_vmodule.specs.declared.module.NetKind.{NetKind}
use Rattle.ae_vread.specs.declared.reading.ReadFault.{ReadFault}
use Rattle.ae_vread.specs.declared.reading.ReadFault.TheVariants.{Syntax, Memory}
use Rattle.ae_vread.specs.declared.reading.Reader.{Reader}
use Rattle.ae_vmodule.specs.Words.{Extends}
use Rattle.ae_vmodule.specs.View.{word_at, net_tree}
use Rattle.ae_vread.specs.TokenTests.{◌>>=◌, after_mark, first_name, first_number}
use Rattle.ae_vread.specs.Reading.{Found, whole_expression}
use Rattle.ae_vread.specs.ItemReading.{Entries, Step, entries, by_entry, listed, net_by, one_net, comma_net, net_behind, reg_kind_of, reg_from, after_zero, drive_tree_of}
use Rattle.ae_vread.specs.Read.{Fails, net_of}
use Rattle.ae_vread.specs.ReadList.{Added, Went}
use Rattle.ae_vtoken.specs.Ahead.{ahead}
use Rattle.ae_vread.proofs.Meanings.{then_is, extends_by}

pub net_means : (ws : List (List ℕ)) (v : VNet) (k : ℕ) (high : Option ℕ) (kind : NetKind) (item : ℕ) (n : List ℕ) → v ≡ net_of k high kind item
    → word_at ws k ≡ n
    → net_tree ws v ≡ net_by high kind item n
net_means ws v k None kind item n is word = ap (net_tree ws) is ∙ ap (net_by None kind item) word
net_means ws v k (Some high) kind item n is word = ap (net_tree ws) is ∙ ap (net_by (Some high) kind item) word

pub one_net_is : (net : List ℕ → NetTree) (ts us : List TokenTree) (n : List ℕ) → first_name ts ≡ Some (n, us) → one_net net ts ≡ Some (net n ∷ [], us)
one_net_is net ts us n name = then_is (λ x. Some (net x.0 ∷ [], x.1)) _ (n, us) name

pub comma_net_is : (net : List ℕ → NetTree) (ts us vs : List TokenTree) (n : List ℕ) → after_mark Comma ts ≡ Some us → first_name us ≡ Some (n, vs)
    → comma_net net ts ≡ Some (Some (net n ∷ [], vs))
comma_net_is net ts us vs n comma name = ap (λ o. Some (net_behind net o)) comma ∙ ap Some (one_net_is net us vs n name)

pub reg_is : (high : Option ℕ) (item : ℕ) (n : List ℕ) (ts : List TokenTree) → after_mark OpenBracket ts ≡ None
    → reg_from high item n ts (after_mark OpenBracket ts) ≡ Some (net_by high (reg_kind_of None) item n ∷ [], ts)
reg_is high item n ts none = ap (reg_from high item n ts) none

pub memory_is : (high : Option ℕ) (item : ℕ) (n : List ℕ) (ts us vs ws xs rest : List TokenTree) (last : ℕ) → after_mark OpenBracket ts ≡ Some us
    → after_zero us ≡ Some vs → after_mark Colon vs ≡ Some ws → first_number ws ≡ Some (last, xs) → after_mark CloseBracket xs ≡ Some rest
    → reg_from high item n ts (after_mark OpenBracket ts) ≡ Some (net_by high (reg_kind_of (Some last)) item n ∷ [], rest)
memory_is high item n ts us vs ws xs rest last opened zeroed colon number close =
    ap (reg_from high item n ts) opened
    ∙ then_is (λ a. after_mark Colon a >>= λ b. first_number b >>= λ l. after_mark CloseBracket l.1 >>= λ r. Some
    (net_by high (reg_kind_of (Some l.0)) item n ∷ [], r)) _ vs zeroed
    ∙ then_is (λ b. first_number b >>= λ l. after_mark CloseBracket l.1 >>= λ r. Some (net_by high (reg_kind_of (Some l.0)) item n ∷ [], r)) _ ws colon
    ∙ then_is (λ l. after_mark CloseBracket l.1 >>= λ r. Some (net_by high (reg_kind_of (Some l.0)) item n ∷ [], r)) _ (last, xs) number
    ∙ then_is (λ r. Some (net_by high (reg_kind_of (Some last)) item n ∷ [], r)) _ rest close

pub drive_is : (n : List ℕ) (ts : List TokenTree) (x : Found) → whole_expression ts ≡ Some x
    → drive_tree_of n ts ≡ Some (record { name = n; value = x.tree } ∷ [], x.rest)
drive_is n ts x here = then_is (λ y. Some (record { name = n; value = y.tree } ∷ [], y.rest)) _ x here

-- a list begins, goes on, and ends
pub list_begins : {Y : Type 0} (read : List TokenTree → Option (Entries Y)) (step : Step Y) (ts : List TokenTree) (e : Entries Y) → read ts ≡ Some e
    → listed read step ts ≡ entries step (length ts - 0) e.0 e.1
list_begins read step ts e here =
    then_is (λ x. entries step (length ts) x.0 x.1) _ e here ∙ ap (λ k. entries step k e.0 e.1) (let s : length ts ≡ length ts - 0 = omega arith in s)

entries_turn : {Y : Type 0} (step : Step Y) (m n : ℕ) (e : Entries Y) → n < m
    → entries step (m - n) e.0 e.1 ≡ (step e.1 >>= by_entry (entries step (m - (n + 1))) e.0 e.1)
entries_turn step m n e below = ap (λ k. entries step k e.0 e.1) (let s : m - n ≡ suc (m - (n + 1)) = omega arith in s)

pub list_next : {Y : Type 0} (o : Option (Entries Y)) (step : Step Y) (m n : ℕ) (e x : Entries Y) → n < m → o ≡ entries step (m - n) e.0 e.1
    → step e.1 ≡ Some (Some x) → o ≡ entries step (m - (n + 1)) (e.0 ++ x.0) x.1
list_next o step m n e x below so_far here =
    so_far ∙ entries_turn step m n e below ∙ then_is (by_entry (entries step (m - (n + 1))) e.0 e.1) _ (Some x) here

pub list_ends : {Y : Type 0} (o : Option (Entries Y)) (step : Step Y) (m n : ℕ) (e : Entries Y) → n < m → o ≡ entries step (m - n) e.0 e.1
    → step e.1 ≡ Some None → o ≡ Some e
list_ends o step m n e below so_far here =
    so_far ∙ entries_turn step m n e below ∙ then_is (by_entry (entries step (m - (n + 1))) e.0 e.1) _ None here

pub list_fails : {Y : Type 0} (fault : ReadFault) (o : Option (Entries Y)) (step : Step Y) (m n : ℕ) (e : Entries Y) → n < m → o ≡ entries step (m - n) e.0 e.1
    → Fails fault (step e.1) → Fails fault o
list_fails Syntax o step m n e below so_far here =
    so_far ∙ entries_turn step m n e below ∙ ap (λ s. s >>= by_entry (entries step (m - (n + 1))) e.0 e.1) here
list_fails Memory o step m n e below so_far here = tt

pub list_runs_out : {Y : Type 0} (o : Option (Entries Y)) (step : Step Y) (m n : ℕ) (e : Entries Y) → m ≤ n → o ≡ entries step (m - n) e.0 e.1 → o ≡ None
list_runs_out o step m n e past so_far = so_far ∙ ap (λ k. entries step k e.0 e.1) (let s : m - n ≡ 0 = omega arith in s)

-- entries behind entries
pub added_more : {X Y : Type 0} (view : List (List ℕ) → X → Y) (a b c : List X) (w0 w1 : List (List ℕ)) (r s : Reader) (e x : Entries Y)
    → Added view a b w0 r e → w1 ≡ r.words → Added view b c w1 s x → Added view a c w0 s (e.0 ++ x.0, x.1)
added_more view a b c w0 w1 r s e x first same second =
    let later = subst (λ w. Extends w s.words) same second.extends in
    record {
      more = first.more ++ second.more;
      items = second.items ∙ ap (λ l. l ++ second.more) first.items ∙ append_assoc a first.more second.more;
      means = λ ws g. map-append (view ws) first.more second.more
          ∙ (λ i. first.means ws (extends_by r.words s.words ws later g) i ++ second.means ws g i);
      rest = second.rest;
      extends = extends_by w0 r.words s.words first.extends later;
    }

pub added_same : {X Y : Type 0} (view : List (List ℕ) → X → Y) (a b c : List X) (w0 : List (List ℕ)) (r s : Reader) (e : Entries Y) → Added view a b w0 r e
    → c ≡ b → ahead s.tokens ≡ ahead r.tokens → Extends r.words s.words → Added view a c w0 s e
added_same view a b c w0 r s e first items tokens later = record {
  more = first.more;
  items = items ∙ first.items;
  means = λ ws g. first.means ws (extends_by r.words s.words ws later g);
  rest = tokens ∙ first.rest;
  extends = extends_by w0 r.words s.words first.extends later;
}

pub went : {X Y : Type 0} (view : List (List ℕ) → X → Y) (old new : List X) (words : List (List ℕ)) (r : Reader) (b c : Bool)
    (read : Option (Option (Entries Y)))
    (ts : List TokenTree) → b ≡ c → Went view old new words r b read ts → Went view old new words r c read ts
went view old new words r b c read ts same h = subst (λ d. Went view old new words r d read ts) same h

pub fails_at : {Y : Type 0} (fault : ReadFault) (f : List TokenTree → Option Y) (ts us : List TokenTree) → ts ≡ us → Fails fault (f ts) → Fails fault (f us)
fails_at fault f ts us same h = subst (λ vs. Fails fault (f vs)) same h

pub there_is : {A : Type 0} (o : Option A) (x : A) (P : A → Type 0) → o ≡ Some x → IfSome o P → P x
there_is o x P is h = subst (λ p. IfSome p P) is h
