-- What reading a header and items gives where their parts are read.
use Rattle.std.proofs.Common.{◌≡◌, ℕ, zero, suc, ◌+◌, ◌<◌, ◌≤◌, List, [], ◌∷◌, ◌++◌, true, false, Option, Some, ap, ◌∙◌, sym, refl, arith, length, map, take, drop, get_or, append-nil, append_assoc}
use Rattle.std.specs.Prelude.{slice_get}
use Rattle.std.proofs.Math.Seq.{take-suc}
use Rattle.std.proofs.lemmas.List.{map-append}
use Rattle.ae_vtoken.specs.Tokens.{TokenTree}
use Rattle.ae_vtoken.specs.Ahead.{ahead}
use Rattle.ae_vtoken.specs.declared.token.Sign.TheVariants.{Open, Close, Semicolon}
use Rattle.ae_vtoken.specs.declared.token.Key.TheVariants.{Module}
use Rattle.ae_vmodule.specs.ModuleTree as m
use Rattle.ae_vmodule.specs.ModuleTree.{NetTree, DriveTree}
use Rattle.ae_vmodule.specs.declared.module.VNet.{VNet}
use Rattle.ae_vmodule.specs.declared.module.Drive.{Drive}
use Rattle.ae_vmodule.specs.declared.module.NetKind.TheVariants.{Wire}
use Rattle.ae_vread.specs.declared.reading.Reader.{Reader}
use Rattle.ae_vmodule.specs.Words.{Extends}
use Rattle.ae_vmodule.specs.View.{word_at, net_tree, drive_tree}
use Rattle.ae_vread.specs.TokenTests.{◌>>=◌, after_mark, after_word, first_name}
use Rattle.ae_vread.specs.StmtReading.{StmtFound, whole_statement}
use Rattle.ae_vread.specs.ItemReading.{Entries, item_found, header_found, header_behind, header, port_list, drive_list, net_list, reg_list, net_by, range, wires, reg_item, regs, assign_from, always_from, clock_from, drive_nets, item_at}
use Rattle.ae_vread.specs.Read.{net_of}
use Rattle.ae_vread.specs.ReadList.{Added}
use Rattle.ae_vread.proofs.Meanings.{then_is, extends_by, extends_same, extends_to}
use Rattle.ae_vread.proofs.ListSteps.{net_means}

pub header_is : (ts us vs ws xs rest : List TokenTree) (n : List ℕ) (e : Entries NetTree) → after_word Module ts ≡ Some us → first_name us ≡ Some (n, vs)
    → after_mark Open vs ≡ Some ws → port_list ws ≡ Some e → after_mark Close e.1 ≡ Some xs → after_mark Semicolon xs ≡ Some rest
    → header ts ≡ Some (header_found n e.0 rest)
header_is ts us vs ws xs rest n e word name opened ports close end =
    then_is (λ a. first_name a >>= λ b. after_mark Open b.1 >>= λ c. port_list c >>= header_behind b.0) _ us word
    ∙ then_is (λ b. after_mark Open b.1 >>= λ c. port_list c >>= header_behind b.0) _ (n, vs) name
    ∙ then_is (λ c. port_list c >>= header_behind n) _ ws opened ∙ then_is (header_behind n) _ e ports
    ∙ then_is (λ a. after_mark Semicolon a >>= λ r. Some (header_found n e.0 r)) _ xs close ∙ then_is (λ r. Some (header_found n e.0 r)) _ rest end

pub names_are : (item : ℕ) (high : Option ℕ) (ts rest : List TokenTree) (e : Entries NetTree) → net_list (net_by high Wire item) ts ≡ Some e
    → after_mark Semicolon e.1 ≡ Some rest → wires item high ts false ≡ Some (item_found e.0 (m.nets []) rest)
names_are item high ts rest e here end =
    then_is (λ e. after_mark Semicolon e.1 >>= λ us. Some (item_found e.0 (m.nets []) us)) _ e here ∙
    then_is (λ us. Some (item_found e.0 (m.nets []) us)) _ rest end

pub drives_are : (item : ℕ) (high : Option ℕ) (ts rest : List TokenTree) (e : Entries DriveTree) → drive_list ts ≡ Some e → after_mark Semicolon e.1 ≡ Some rest
    → wires item high ts true ≡ Some (item_found (drive_nets high item e.0) (m.nets e.0) rest)
drives_are item high ts rest e here end =
    then_is (λ e. after_mark Semicolon e.1 >>= λ us. Some (item_found (drive_nets high item e.0) (m.nets e.0) us)) _ e here
    ∙ then_is (λ us. Some (item_found (drive_nets high item e.0) (m.nets e.0) us)) _ rest end

pub reg_item_is : (item : ℕ) (ts us rest : List TokenTree) (high : Option ℕ) (e : Entries NetTree) → range ts ≡ Some (high, us) → reg_list high item us ≡ Some e
    → after_mark Semicolon e.1 ≡ Some rest → reg_item item ts ≡ Some (item_found e.0 (m.nets []) rest)
reg_item_is item ts us rest high e ranged here end =
    then_is (λ r. regs item r.0 r.1) _ (high, us) ranged
    ∙ then_is (λ e. after_mark Semicolon e.1 >>= λ us. Some (item_found e.0 (m.nets []) us)) _ e here ∙
    then_is (λ us. Some (item_found e.0 (m.nets []) us)) _ rest end

pub assign_is : (ts rest : List TokenTree) (e : Entries DriveTree) → drive_list ts ≡ Some e → after_mark Semicolon e.1 ≡ Some rest
    → assign_from ts ≡ Some (item_found [] (m.assigns e.0) rest)
assign_is ts rest e here end =
    then_is (λ e. after_mark Semicolon e.1 >>= λ us. Some (item_found [] (m.assigns e.0) us)) _ e here ∙
    then_is (λ us. Some (item_found [] (m.assigns e.0) us)) _ rest end

pub always_is : (ts us : List TokenTree) (n : List ℕ) (x : StmtFound) → clock_from ts ≡ Some (n, us) → whole_statement us ≡ Some x
    → always_from ts ≡ Some (item_found [] (m.always n x.tree) x.rest)
always_is ts us n x clock here =
    then_is (λ c. whole_statement c.1 >>= λ s. Some (item_found [] (m.always c.0 s.tree) s.rest)) _ (n, us) clock
    ∙ then_is (λ s. Some (item_found [] (m.always n s.tree) s.rest)) _ x here

-- entries, where the tokens behind them go on
pub added_rest : {X Y : Type 0} (view : List (List ℕ) → X → Y) (a b : List X) (w : List (List ℕ)) (r s : Reader) (e : Entries Y) → Added view a b w r e
    → s.words ≡ r.words → Added view a b w s (e.0, ahead s.tokens)
added_rest view a b w r s e first same = record {
  more = first.more;
  items = first.items;
  means = λ ws g. first.means ws (extends_same _ _ ws g (sym same));
  rest = refl;
  extends = extends_to _ _ _ first.extends same;
}

pub added_from : {X Y : Type 0} (view : List (List ℕ) → X → Y) (a b : List X) (w v : List (List ℕ)) (r : Reader) (e : Entries Y) → Added view a b w r e
    → Extends v w → Added view a b v r e
added_from view a b w v r e first later =
    record { more = first.more; items = first.items; means = first.means; rest = first.rest; extends = extends_by _ _ _ later first.extends }

pub added_none : {X Y : Type 0} (view : List (List ℕ) → X → Y) (a : List X) (w : List (List ℕ)) (r : Reader) (rest : List TokenTree) → Extends w r.words
    → ahead r.tokens ≡ rest → Added view a a w r ([], rest)
added_none view a w r rest later tokens = record { more = []; items = sym (append-nil a); means = λ ws g. refl; rest = tokens; extends = later }

-- all entries of a list that was empty
pub all_mean : {X Y : Type 0} (view : List (List ℕ) → X → Y) (a b : List X) (w : List (List ℕ)) (r : Reader) (e : Entries Y) → Added view a b w r e → a ≡ []
    → (ws : List (List ℕ)) → Extends r.words ws → map (view ws) b ≡ e.0
all_mean view a b w r e first none ws g = ap (map (view ws)) (first.items ∙ ap (λ l. l ++ first.more) none) ∙ first.means ws g

-- the names of drives
abbrev pub declared : Option ℕ → ℕ → Drive → VNet
declared high item d = net_of d.name high Wire item

pub one_declared : (high : Option ℕ) (item : ℕ) (ds : List Drive) (i : ℕ) (d : Drive) (old before after : List VNet) (v : VNet) → i < length ds
    → d ≡ get_or ds i d
    → v ≡ net_of d.name high Wire item → after ≡ before ++ v ∷ [] → before ≡ old ++ map (declared high item) (take i ds)
    → after ≡ old ++ map (declared high item) (take (i + 1) ds)
one_declared high item ds i d old before after v below is net pushed so_far =
    pushed ∙ (λ j. so_far j ++ (net ∙ ap (declared high item) is) j ∷ [])
    ∙ append_assoc old (map (declared high item) (take i ds)) (declared high item (get_or ds i d) ∷ [])
    ∙ ap (λ l. old ++ l) (sym (map-append (declared high item) (take i ds) (get_or ds i d ∷ [])))
    ∙ ap (λ l. old ++ map (declared high item) l)
    (sym (ap (λ k. take k ds) (let e : i + 1 ≡ suc i = omega arith in e) ∙ take-suc ds i d below))

take_past : {X : Type 0} (l : List X) (n : ℕ) → length l ≤ n → take n l ≡ l
take_past [] zero h = refl
take_past [] (suc n) h = refl
take_past (x ∷ l) zero h = absurd (omega (arith, h))
take_past (x ∷ l) (suc n) h = ap (λ l. x ∷ l) (take_past l n (omega (arith, h)))

pub all_declared : (high : Option ℕ) (item : ℕ) (ds : List Drive) (i : ℕ) (old new : List VNet) → length ds ≤ i
    → new ≡ old ++ map (declared high item) (take i ds) → new ≡ old ++ map (declared high item) ds
all_declared high item ds i old new past so_far = so_far ∙ ap (λ l. old ++ map (declared high item) l) (take_past ds i past)

one_net_means : (ws : List (List ℕ)) (high : Option ℕ) (item : ℕ) (d : Drive) → net_tree ws (declared high item d) ≡ net_by high Wire item (word_at ws d.name)
one_net_means ws high item d = net_means ws (declared high item d) d.name high Wire item (word_at ws d.name) refl refl

nets_mean : (ws : List (List ℕ)) (high : Option ℕ) (item : ℕ) (ds : List Drive)
    → map (net_tree ws) (map (declared high item) ds) ≡ drive_nets high item (map (drive_tree ws) ds)
nets_mean ws high item [] = refl
nets_mean ws high item (d ∷ ds) = λ i. one_net_means ws high item d i ∷ nets_mean ws high item ds i

-- what drives of a declaration declare
pub drives_declared : (high : Option ℕ) (item : ℕ) (old new : List VNet) (ds es : List Drive) (w : List (List ℕ)) (r s : Reader) (e : Entries DriveTree)
    → new ≡ old ++ map (declared high item) es → es ≡ ds → ((ws : List (List ℕ)) → Extends r.words ws → map (drive_tree ws) ds ≡ e.0) → Extends w r.words
    → s.words ≡ r.words → Added net_tree old new w s (drive_nets high item e.0, ahead s.tokens)
drives_declared high item old new ds es w r s e nets same means later words = record {
  more = map (declared high item) ds;
  items = nets ∙ ap (λ l. old ++ map (declared high item) l) same;
  means = λ ws g. nets_mean ws high item ds ∙ ap (drive_nets high item) (means ws (extends_same _ _ ws g (sym words)));
  rest = refl;
  extends = extends_to _ _ _ later words;
}

-- an item behind the word that it begins with
pub first_is : (item : ℕ) (ts : List TokenTree) (t : TokenTree) → slice_get ts 0 ≡ Some t → item_at item ts ≡ item_at item (t ∷ drop 1 ts)
first_is item [] t h = cc
first_is item (u ∷ ts) t h = ap (λ x. item_at item (x ∷ ts)) (let e : u ≡ t = cc in e)
