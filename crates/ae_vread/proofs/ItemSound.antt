-- What is read as a header or an item is written so.
use Rattle.std.proofs.Common.{◌≡◌, ℕ, ◌+◌, List, [], ◌∷◌, ◌++◌, Bool, true, false, Option, Some, None, refl, sym, ap, ◌∙◌, subst, append_assoc, map}
use Rattle.std.specs.List.{flat_map}
use Rattle.std.proofs.lemmas.Option.{cond_some}
use Rattle.ae_vtoken.specs.Tokens.{TokenTree, Name, Word, Unused, Zero, Decimal, Sized, Mark}
use Rattle.ae_vmodule.specs.ModuleTree.{NetTree, DriveTree, nets, assigns, always}
use Rattle.ae_vread.specs.ExprForms.{NumberForm, number_token, number_value, expr_tokens}
use Rattle.ae_vread.specs.Forms.{PortHead, InputHead, OutputHead, OutputRegHead, PortForm, ItemForm, WireItem, WireDrives, RegItem, AssignItem, AlwaysItem, range_tokens, head_tokens, comma_tokens, name_tokens, port_tokens, drive_tokens, reg_tokens, item_tokens, head_kind, port_nets, reg_net, drive_of, item_nets, item_of, IsDrive, IsItem}
use Rattle.ae_vread.specs.TokenTests.{◌>>=◌, after_mark, after_word, first_name, first_number}
use Rattle.ae_vread.specs.Reading.{Found, whole_expression}
use Rattle.ae_vread.specs.StmtReading.{StmtFound, whole_statement}
use Rattle.ae_vread.specs.ItemReading.{Entries, is_zero, after_zero, range_from, range, net_by, one_net, net_behind, comma_net, net_list, reg_kind_of, reg_from, one_reg, reg_list, with_comma, drive_tree_of, one_drive, drive_list, without_wire, output_from, head_from, port_head, port, port_list, ItemFound, item_found, has_equals, drive_nets, wires, regs, assign_from, clock_from, always_from, ItemStart, StartWire, StartReg, StartAssign, StartAlways, NoItemStart, item_start, item_from, item_at, HeaderFound, header_found, header_behind, header}
use Rattle.ae_vread.specs.Places.{IsApart, IsItemOf, header_tokens}
use Rattle.ae_vmodule.specs.declared.module.NetKind.{NetKind}
use Rattle.ae_vmodule.specs.declared.module.NetKind.TheVariants.{Input, Wire, OutWire}
use Rattle.ae_vtoken.specs.declared.token.Key.TheVariants.{Module as KeyModule, Input as KeyInput, Output as KeyOutput, Wire as KeyWire, Reg as KeyReg, Assign as KeyAssign, Always as KeyAlways, Posedge}
use Rattle.ae_vtoken.specs.declared.token.Sign.TheVariants.{Open, Close, OpenBracket, CloseBracket, Comma, Semicolon, Colon, At, Equals}
use Rattle.ae_vread.proofs.TokenFronts.{bind_some, mark_was, word_was, name_was, IsNumber, number_was}
use Rattle.ae_vread.proofs.ExprSound.{IsReading, whole_sound, some_same}
use Rattle.ae_vread.proofs.StmtAgain.{free_to}
use Rattle.ae_vread.proofs.StmtSound.{IsStmt, whole_stmt_sound}
use Rattle.ae_vread.proofs.ItemAgain.{high_of, net_same, Any, net_out, drive_out, reg_out, drive_nets_of}
use Rattle.ae_vread.proofs.ListLaws.{singles, IsEntry, IsList, listed_sound, comma_sound}

zero_is : (t : TokenTree) → is_zero t ≡ true → t ≡ Zero
zero_is Zero h = refl
zero_is (Mark s) h = absurd (let e : false ≡ true = h in cc)
zero_is (Name n) h = absurd (let e : false ≡ true = h in cc)
zero_is (Word k) h = absurd (let e : false ≡ true = h in cc)
zero_is Unused h = absurd (let e : false ≡ true = h in cc)
zero_is (Decimal n) h = absurd (let e : false ≡ true = h in cc)
zero_is (Sized size value fits) h = absurd (let e : false ≡ true = h in cc)

zero_was : (ts us : List TokenTree) → after_zero ts ≡ Some us → ts ≡ Zero ∷ us
zero_was [] us h = absurd (let e : None ≡ Some us = h in cc)
zero_was (t ∷ ts) us h = let parts = cond_some _ _ _ h in λ i. zero_is t parts.0 i ∷ parts.1 i

-- a range in front

record IsRange (ts : List TokenTree) (x : Option ℕ × List TokenTree) : Type 0 where
  form : Option NumberForm
  value : high_of form ≡ x.0
  whole : ts ≡ range_tokens form ++ x.1

range_was_from : (ts : List TokenTree) (o : Option (List TokenTree)) (x : Option ℕ × List TokenTree) → after_mark OpenBracket ts ≡ o → range_from ts o ≡ Some x
    → IsRange ts x
range_was_from ts None x is h =
    let same : (None, ts) ≡ x = some_same _ _ h in
    record { form = None; value = ap (λ (p : Option ℕ × List TokenTree). p.0) same; whole = ap (λ (p : Option ℕ × List TokenTree). p.1) same }
range_was_from ts (Some us) x is h =
    let high = bind_some (first_number us) (λ h. after_mark Colon h.1 >>= λ vs. after_zero vs >>= λ ws. after_mark CloseBracket ws >>= λ rest. Some
    (Some h.0, rest)) x h in
    let num : IsNumber us high.0 = number_was us high.0 high.1 in
    let colon = bind_some (after_mark Colon high.0.1) (λ vs. after_zero vs >>= λ ws. after_mark CloseBracket ws >>= λ rest. Some (Some high.0.0, rest)) x
    high.2 in
    let low = bind_some (after_zero colon.0) (λ ws. after_mark CloseBracket ws >>= λ rest. Some (Some high.0.0, rest)) x colon.2 in
    let close = bind_some (after_mark CloseBracket low.0) (λ rest. Some (Some high.0.0, rest)) x low.2 in
    let same : (Some high.0.0, close.0) ≡ x = some_same _ _ close.2 in
    record {
      form = Some num.form;
      value = ap Some num.value ∙ ap (λ (p : Option ℕ × List TokenTree). p.0) same;
      whole = mark_was OpenBracket ts us is ∙ ap (λ l. Mark OpenBracket ∷ l)
          (num.whole ∙ ap (λ l. number_token num.form ∷ l) (mark_was Colon high.0.1 colon.0 colon.1 ∙
          ap (λ l. Mark Colon ∷ l) (zero_was colon.0 low.0 low.1 ∙
          ap (λ l. Zero ∷ l) (mark_was CloseBracket low.0 close.0 close.1 ∙ ap (λ (p : Option ℕ × List TokenTree). Mark CloseBracket ∷ p.1) same))));
    }

range_was : (ts : List TokenTree) (x : Option ℕ × List TokenTree) → range ts ≡ Some x → IsRange ts x
range_was ts x h = range_was_from ts (after_mark OpenBracket ts) x refl h

-- names

net_was : (net : List ℕ → NetTree) (ts : List TokenTree) (e : Entries NetTree) → one_net net ts ≡ Some e → IsEntry name_tokens (net_out net) Any ts e
net_was net ts e h =
    let n = bind_some (first_name ts) (λ n. Some (net n.0 ∷ [], n.1)) e h in
    let same : (net n.0.0 ∷ [], n.0.1) ≡ e = some_same _ _ n.2 in
    record {
      form = n.0.0;
      fits = tt;
      whole = name_was ts n.0 n.1 ∙ ap (λ (p : Entries NetTree). Name n.0.0 ∷ p.1) same;
      same = ap (λ (p : Entries NetTree). p.0) same;
    }

net_step : (net : List ℕ → NetTree) (ts : List TokenTree) (e : Entries NetTree) → comma_net net ts ≡ Some (Some e) → (us : List TokenTree)
    × (ts ≡ Mark Comma ∷ us) × IsEntry name_tokens (net_out net) Any us e
net_step net ts e h =
    elim (after_mark Comma ts) as (λ o. after_mark Comma ts ≡ o → net_behind net o ≡ Some e → (us : List TokenTree) × (ts ≡ Mark Comma ∷ us)
    × IsEntry name_tokens (net_out net) Any us e) [
      | None ↦ λ is h. absurd (let e' : None ≡ Some e = h in cc)
      | Some us ↦ λ is h. (us, mark_was Comma ts us is, net_was net us e h)
    ] refl (some_same _ _ h)

nets_was : (net : List ℕ → NetTree) (ts : List TokenTree) (e : Entries NetTree) → net_list net ts ≡ Some e → IsList name_tokens (net_out net) Any ts e
nets_was net ts e h = listed_sound name_tokens (net_out net) Any Any (one_net net) (comma_net net) (net_was net) (net_step net) ts e h

-- drives

drive_was : (ts : List TokenTree) (e : Entries DriveTree) → one_drive ts ≡ Some e → IsEntry drive_tokens drive_out IsDrive ts e
drive_was ts e h =
    let n = bind_some (first_name ts) (λ n. after_mark Equals n.1 >>= drive_tree_of n.0) e h in
    let equals = bind_some (after_mark Equals n.0.1) (drive_tree_of n.0.0) e n.2 in
    let value = bind_some (whole_expression equals.0) (λ x. Some (record { name = n.0.0; value = x.tree } ∷ [], x.rest)) e equals.2 in
    let x : Found = value.0 in
    let a : IsReading 1 equals.0 x = whole_sound equals.0 x value.1 in
    let same : (record { name = n.0.0; value = x.tree } ∷ [], x.rest) ≡ e = some_same _ _ value.2 in
    record {
      form = record { name = n.0.0; value = a.form };
      fits = record { level = a.some; formed = a.is.formed; depth = a.is.small };
      whole = name_was ts n.0 n.1 ∙ ap (λ l. Name n.0.0 ∷ l)
          (mark_was Equals n.0.1 equals.0 equals.1 ∙ ap (λ l. Mark Equals ∷ l) (a.is.whole ∙ ap (λ (p : Entries DriveTree). expr_tokens a.form ++ p.1) same));
      same = (λ i. record { name = n.0.0; value = a.is.same_tree i } ∷ []) ∙ ap (λ (p : Entries DriveTree). p.0) same;
    }

drives_was : (ts : List TokenTree) (e : Entries DriveTree) → drive_list ts ≡ Some e → IsList drive_tokens drive_out IsDrive ts e
drives_was ts e h =
    listed_sound drive_tokens drive_out IsDrive Any one_drive (with_comma one_drive) drive_was
    (comma_sound drive_tokens drive_out IsDrive one_drive drive_was) ts e h

-- registers and memories

reg_was : (high : Option NumberForm) (item : ℕ) (ts : List TokenTree) (e : Entries NetTree) → one_reg (high_of high) item ts ≡ Some e
    → IsEntry reg_tokens (reg_out high item) Any ts e
reg_was high item ts e h =
    let n = bind_some (first_name ts) (λ n. reg_from (high_of high) item n.0 n.1 (after_mark OpenBracket n.1)) e h in
    elim (after_mark OpenBracket n.0.1) as (λ o. after_mark OpenBracket n.0.1 ≡ o → reg_from (high_of high) item n.0.0 n.0.1 o ≡ Some e
    → IsEntry reg_tokens (reg_out high item) Any ts e) [
      | None ↦ λ is h.
          let same : (net_by (high_of high) (reg_kind_of None) item n.0.0 ∷ [], n.0.1) ≡ e = some_same _ _ h in
          record {
            form = record { name = n.0.0; last = None };
            fits = tt;
            whole = name_was ts n.0 n.1 ∙ ap (λ (p : Entries NetTree). Name n.0.0 ∷ p.1) same;
            same = ap (λ t. t ∷ []) (sym (net_same high (reg_kind_of None) item n.0.0)) ∙ ap (λ (p : Entries NetTree). p.0) same;
          }
      | Some us ↦ λ is h.
          let low = bind_some (after_zero us) (λ vs. after_mark Colon vs >>= λ ws. first_number ws >>= λ l. after_mark CloseBracket l.1 >>= λ rest. Some
          (net_by (high_of high) (reg_kind_of (Some l.0)) item n.0.0 ∷ [], rest)) e h in
          let colon = bind_some (after_mark Colon low.0) (λ ws. first_number ws >>= λ l. after_mark CloseBracket l.1 >>= λ rest. Some
          (net_by (high_of high) (reg_kind_of (Some l.0)) item n.0.0 ∷ [], rest)) e low.2 in
          let last = bind_some (first_number colon.0) (λ l. after_mark CloseBracket l.1 >>= λ rest. Some
          (net_by (high_of high) (reg_kind_of (Some l.0)) item n.0.0 ∷ [], rest)) e colon.2 in
          let num : IsNumber colon.0 last.0 = number_was colon.0 last.0 last.1 in
          let close = bind_some (after_mark CloseBracket last.0.1)
          (λ rest. Some (net_by (high_of high) (reg_kind_of (Some last.0.0)) item n.0.0 ∷ [], rest)) e last.2 in
          let same : (net_by (high_of high) (reg_kind_of (Some last.0.0)) item n.0.0 ∷ [], close.0) ≡ e = some_same _ _ close.2 in
          record {
            form = record { name = n.0.0; last = Some num.form };
            fits = tt;
            whole = name_was ts n.0 n.1 ∙ ap (λ l. Name n.0.0 ∷ l)
                (mark_was OpenBracket n.0.1 us is ∙ ap (λ l. Mark OpenBracket ∷ l)
                (zero_was us low.0 low.1 ∙ ap (λ l. Zero ∷ l) (mark_was Colon low.0 colon.0 colon.1 ∙
                ap (λ l. Mark Colon ∷ l) (num.whole ∙ ap (λ l. number_token num.form ∷ l)
                (mark_was CloseBracket last.0.1 close.0 close.1 ∙ ap (λ (p : Entries NetTree). Mark CloseBracket ∷ p.1) same)))));
            same = ap (λ t. t ∷ []) (sym (net_same high (reg_kind_of (Some (number_value num.form))) item n.0.0)) ∙
                ap (λ v. net_by (high_of high) (reg_kind_of (Some v)) item n.0.0 ∷ []) num.value ∙ ap (λ (p : Entries NetTree). p.0) same;
          }
    ] refl n.2

regs_was : (high : Option NumberForm) (item : ℕ) (ts : List TokenTree) (e : Entries NetTree) → reg_list (high_of high) item ts ≡ Some e
    → IsList reg_tokens (reg_out high item) Any ts e
regs_was high item ts e h =
    listed_sound reg_tokens (reg_out high item) Any Any (one_reg (high_of high) item) (with_comma (one_reg (high_of high) item)) (reg_was high item)
    (comma_sound reg_tokens (reg_out high item) Any (one_reg (high_of high) item) (reg_was high item)) ts e h

-- ports

record IsHead (ts : List TokenTree) (x : NetKind × List TokenTree) : Type 0 where
  form : PortHead
  kind : head_kind form ≡ x.0
  whole : ts ≡ head_tokens form ++ x.1

input_was : (us : List TokenTree) (o : Option (List TokenTree)) (x : NetKind × List TokenTree) → after_word KeyWire us ≡ o → (Input, without_wire us o) ≡ x
    → IsHead (Word KeyInput ∷ us) x
input_was us None x is same =
    record {
      form = InputHead false;
      kind = ap (λ (p : NetKind × List TokenTree). p.0) same;
      whole = ap (λ (p : NetKind × List TokenTree). Word KeyInput ∷ p.1) same;
    }
input_was us (Some vs) x is same =
    record {
      form = InputHead true;
      kind = ap (λ (p : NetKind × List TokenTree). p.0) same;
      whole = ap (λ l. Word KeyInput ∷ l) (word_was KeyWire us vs is) ∙
          ap (λ (p : NetKind × List TokenTree). Word KeyInput ∷ Word KeyWire ∷ p.1) same;
    }

output_was : (us : List TokenTree) (o : Option (List TokenTree)) (x : NetKind × List TokenTree) → after_word KeyWire us ≡ o → (OutWire, without_wire us o) ≡ x
    → IsHead (Word KeyOutput ∷ us) x
output_was us None x is same =
    record {
      form = OutputHead false;
      kind = ap (λ (p : NetKind × List TokenTree). p.0) same;
      whole = ap (λ (p : NetKind × List TokenTree). Word KeyOutput ∷ p.1) same;
    }
output_was us (Some vs) x is same =
    record {
      form = OutputHead true;
      kind = ap (λ (p : NetKind × List TokenTree). p.0) same;
      whole = ap (λ l. Word KeyOutput ∷ l) (word_was KeyWire us vs is) ∙
          ap (λ (p : NetKind × List TokenTree). Word KeyOutput ∷ Word KeyWire ∷ p.1) same;
    }

reg_head_was : (us : List TokenTree) (o : Option (List TokenTree)) (x : NetKind × List TokenTree) → after_word KeyReg us ≡ o → output_from us o ≡ x
    → IsHead (Word KeyOutput ∷ us) x
reg_head_was us None x is same = output_was us (after_word KeyWire us) x refl same
reg_head_was us (Some vs) x is same =
    record {
      form = OutputRegHead;
      kind = ap (λ (p : NetKind × List TokenTree). p.0) same;
      whole = ap (λ l. Word KeyOutput ∷ l) (word_was KeyReg us vs is) ∙
          ap (λ (p : NetKind × List TokenTree). Word KeyOutput ∷ Word KeyReg ∷ p.1) same;
    }

head_was : (ts : List TokenTree) (x : NetKind × List TokenTree) → port_head ts ≡ Some x → IsHead ts x
head_was ts x h = elim (after_word KeyInput ts) as (λ o. after_word KeyInput ts ≡ o → head_from ts o ≡ Some x → IsHead ts x) [
  | None ↦ λ is h.
      let output = bind_some (after_word KeyOutput ts) (λ us. Some (output_from us (after_word KeyReg us))) x h in
      subst (λ l. IsHead l x) (sym (word_was KeyOutput ts output.0 output.1))
      (reg_head_was output.0 (after_word KeyReg output.0) x refl (some_same _ _ output.2))
  | Some us ↦ λ is h. subst (λ l. IsHead l x) (sym (word_was KeyInput ts us is)) (input_was us (after_word KeyWire us) x refl (some_same _ _ h))
] refl h

port_was : (ts : List TokenTree) (e : Entries NetTree) → port ts ≡ Some e → IsEntry port_tokens port_nets Any ts e
port_was ts e h =
    let head = bind_some (port_head ts) (λ h. range h.1 >>= λ r. net_list (net_by r.0 h.0 0) r.1) e h in
    let ranged = bind_some (range head.0.1) (λ r. net_list (net_by r.0 head.0.0 0) r.1) e head.2 in
    let front : IsHead ts head.0 = head_was ts head.0 head.1 in
    let r : IsRange head.0.1 ranged.0 = range_was head.0.1 ranged.0 ranged.1 in
    let names = nets_was (net_by ranged.0.0 head.0.0 0) ranged.0.1 e ranged.2 in
    record {
      form = record { head = front.form; range = r.form; first = names.first; more = names.more };
      fits = tt;
      whole = front.whole ∙ ap (λ l. head_tokens front.form ++ l) (r.whole ∙ ap (λ l. range_tokens r.form ++ l) names.whole)
          ∙ sym (append_assoc (head_tokens front.form) (range_tokens r.form ++ Name names.first ∷ comma_tokens name_tokens names.more) e.1 ∙
          ap (λ l. head_tokens front.form ++ l) (append_assoc (range_tokens r.form) (Name names.first ∷ comma_tokens name_tokens names.more) e.1));
      same = sym (λ i. map (λ n. net_same r.form (head_kind front.form) 0 n i) (names.first ∷ names.more)) ∙
          sym (singles (net_by (high_of r.form) (head_kind front.form) 0) (names.first ∷ names.more))
          ∙ (λ i. flat_map (net_out (net_by (r.value i) (front.kind i) 0)) (names.first ∷ names.more)) ∙ names.same;
    }

ports_was : (ts : List TokenTree) (e : Entries NetTree) → port_list ts ≡ Some e → IsList port_tokens port_nets Any ts e
ports_was ts e h = listed_sound port_tokens port_nets Any Any port (with_comma port) port_was (comma_sound port_tokens port_nets Any port port_was) ts e h

-- a header in front
pub record IsHeader (ts : List TokenTree) (x : HeaderFound) : Type 0 where
  pub first : PortForm
  pub more : List PortForm
  pub ports : flat_map port_nets (first ∷ more) ≡ x.nets
  pub whole : ts ≡ header_tokens x.name first more ++ x.rest

pub header_was : (ts : List TokenTree) (x : HeaderFound) → header ts ≡ Some x → IsHeader ts x
header_was ts x h =
    let word = bind_some (after_word KeyModule ts) (λ us. first_name us >>= λ n. after_mark Open n.1 >>= λ vs. port_list vs >>= header_behind n.0) x h in
    let n = bind_some (first_name word.0) (λ n. after_mark Open n.1 >>= λ vs. port_list vs >>= header_behind n.0) x word.2 in
    let opened = bind_some (after_mark Open n.0.1) (λ vs. port_list vs >>= header_behind n.0.0) x n.2 in
    let ports = bind_some (port_list opened.0) (header_behind n.0.0) x opened.2 in
    let close = bind_some (after_mark Close ports.0.1) (λ us. after_mark Semicolon us >>= λ rest. Some (header_found n.0.0 ports.0.0 rest)) x ports.2 in
    let semicolon = bind_some (after_mark Semicolon close.0) (λ rest. Some (header_found n.0.0 ports.0.0 rest)) x close.2 in
    let same : header_found n.0.0 ports.0.0 semicolon.0 ≡ x = some_same _ _ semicolon.2 in
    let list : IsList port_tokens port_nets Any opened.0 ports.0 = ports_was opened.0 ports.0 ports.1 in
    subst (IsHeader ts) same (record {
      first = list.first;
      more = list.more;
      ports = list.same;
      whole = word_was KeyModule ts word.0 word.1 ∙ ap (λ l. Word KeyModule ∷ l)
          (name_was word.0 n.0 n.1 ∙ ap (λ l. Name n.0.0 ∷ l) (mark_was Open n.0.1 opened.0 opened.1 ∙ ap (λ l. Mark Open ∷ l)
          (list.whole ∙ ap (λ l. port_tokens list.first ++ (comma_tokens port_tokens list.more ++ l))
          (mark_was Close ports.0.1 close.0 close.1 ∙ ap (λ l. Mark Close ∷ l) (mark_was Semicolon close.0 semicolon.0 semicolon.1))
          ∙ sym (append_assoc (port_tokens list.first) (comma_tokens port_tokens list.more ++ Mark Close ∷ Mark Semicolon ∷ []) semicolon.0 ∙
          ap (λ l. port_tokens list.first ++ l) (append_assoc (comma_tokens port_tokens list.more) (Mark Close ∷ Mark Semicolon ∷ []) semicolon.0)))));
    })

-- an item in front
pub record IsItemRead (k : ℕ) (ts : List TokenTree) (x : ItemFound) : Type 0 where
  pub form : ItemForm
  pub is : IsItemOf form ts x.rest
  pub nets : item_nets k form ≡ x.nets
  pub item : item_of form ≡ x.item

wire_was : (k : ℕ) (r : Option NumberForm) (ts : List TokenTree) (b : Bool) (x : ItemFound) → wires k (high_of r) ts b ≡ Some x → (form : ItemForm)
    × (IsItem form) × ((rest : List TokenTree) → IsApart form rest) × (Word KeyWire ∷ (range_tokens r ++ ts) ≡ item_tokens form ++ x.rest)
    × (item_nets k form ≡ x.nets) × (item_of form ≡ x.item)
wire_was k r ts true x h =
    let drives = bind_some (drive_list ts) (λ e. after_mark Semicolon e.1 >>= λ us. Some (item_found (drive_nets (high_of r) k e.0) (nets e.0) us)) x h in
    let end = bind_some (after_mark Semicolon drives.0.1) (λ us. Some (item_found (drive_nets (high_of r) k drives.0.0) (nets drives.0.0) us)) x drives.2 in
    let same : item_found (drive_nets (high_of r) k drives.0.0) (nets drives.0.0) end.0 ≡ x = some_same _ _ end.2 in
    let list : IsList drive_tokens drive_out IsDrive ts drives.0 = drives_was ts drives.0 drives.1 in
    let trees : map drive_of (list.first ∷ list.more) ≡ drives.0.0 = sym (singles drive_of (list.first ∷ list.more)) ∙ list.same in (
      WireDrives r list.first list.more,
      list.fits,
      λ rest. tt,
      ap (λ l. Word KeyWire ∷ (range_tokens r ++ l)) (list.whole ∙
          ap (λ l. drive_tokens list.first ++ (comma_tokens drive_tokens list.more ++ l))
          (mark_was Semicolon drives.0.1 end.0 end.1 ∙ ap (λ (y : ItemFound). Mark Semicolon ∷ y.rest) same))
          ∙ ap (λ l. Word KeyWire ∷ l) (sym (append_assoc (range_tokens r)
          (drive_tokens list.first ++ (comma_tokens drive_tokens list.more ++ Mark Semicolon ∷ [])) x.rest ∙
          ap (λ l. range_tokens r ++ l) (append_assoc (drive_tokens list.first) (comma_tokens drive_tokens list.more ++ Mark Semicolon ∷ []) x.rest ∙
          ap (λ l. drive_tokens list.first ++ l) (append_assoc (comma_tokens drive_tokens list.more) (Mark Semicolon ∷ []) x.rest)))),
      sym (drive_nets_of r k (list.first ∷ list.more)) ∙ ap (drive_nets (high_of r) k) trees ∙ ap (λ (y : ItemFound). y.nets) same,
      ap nets trees ∙ ap (λ (y : ItemFound). y.item) same,
    )
wire_was k r ts false x h =
    let names = bind_some (net_list (net_by (high_of r) Wire k) ts) (λ e. after_mark Semicolon e.1 >>= λ us. Some (item_found e.0 (nets []) us)) x h in
    let end = bind_some (after_mark Semicolon names.0.1) (λ us. Some (item_found names.0.0 (nets []) us)) x names.2 in
    let same : item_found names.0.0 (nets []) end.0 ≡ x = some_same _ _ end.2 in
    let list : IsList name_tokens (net_out (net_by (high_of r) Wire k)) Any ts names.0 = nets_was (net_by (high_of r) Wire k) ts names.0 names.1 in (
      WireItem r list.first list.more,
      tt,
      λ rest. tt,
      ap (λ l. Word KeyWire ∷ (range_tokens r ++ l)) (list.whole ∙
          ap (λ l. Name list.first ∷ (comma_tokens name_tokens list.more ++ l))
          (mark_was Semicolon names.0.1 end.0 end.1 ∙ ap (λ (y : ItemFound). Mark Semicolon ∷ y.rest) same))
          ∙ ap (λ l. Word KeyWire ∷ l) (sym (append_assoc (range_tokens r)
          (Name list.first ∷ (comma_tokens name_tokens list.more ++ Mark Semicolon ∷ [])) x.rest ∙
          ap (λ l. range_tokens r ++ Name list.first ∷ l) (append_assoc (comma_tokens name_tokens list.more) (Mark Semicolon ∷ []) x.rest))),
      sym (λ i. map (λ n. net_same r Wire k n i) (list.first ∷ list.more)) ∙ sym (singles (net_by (high_of r) Wire k) (list.first ∷ list.more)) ∙ list.same ∙
          ap (λ (y : ItemFound). y.nets) same,
      ap (λ (y : ItemFound). y.item) same,
    )

reg_item_was : (k : ℕ) (r : Option NumberForm) (ts : List TokenTree) (x : ItemFound) → regs k (high_of r) ts ≡ Some x
    → IsItemRead k (Word KeyReg ∷ (range_tokens r ++ ts)) x
reg_item_was k r ts x h =
    let found = bind_some (reg_list (high_of r) k ts) (λ e. after_mark Semicolon e.1 >>= λ us. Some (item_found e.0 (nets []) us)) x h in
    let end = bind_some (after_mark Semicolon found.0.1) (λ us. Some (item_found found.0.0 (nets []) us)) x found.2 in
    let same : item_found found.0.0 (nets []) end.0 ≡ x = some_same _ _ end.2 in
    let list : IsList reg_tokens (reg_out r k) Any ts found.0 = regs_was r k ts found.0 found.1 in
    record {
      form = RegItem r list.first list.more;
      is = record {
        is = tt;
        apart = tt;
        whole = ap (λ l. Word KeyReg ∷ (range_tokens r ++ l))
            (list.whole ∙ ap (λ l. reg_tokens list.first ++ (comma_tokens reg_tokens list.more ++ l))
            (mark_was Semicolon found.0.1 end.0 end.1 ∙ ap (λ (y : ItemFound). Mark Semicolon ∷ y.rest) same))
            ∙ ap (λ l. Word KeyReg ∷ l) (sym (append_assoc (range_tokens r)
            (reg_tokens list.first ++ (comma_tokens reg_tokens list.more ++ Mark Semicolon ∷ [])) x.rest ∙
            ap (λ l. range_tokens r ++ l) (append_assoc (reg_tokens list.first) (comma_tokens reg_tokens list.more ++ Mark Semicolon ∷ []) x.rest ∙
            ap (λ l. reg_tokens list.first ++ l) (append_assoc (comma_tokens reg_tokens list.more) (Mark Semicolon ∷ []) x.rest))));
      };
      nets = sym (singles (reg_net r k) (list.first ∷ list.more)) ∙ list.same ∙ ap (λ (y : ItemFound). y.nets) same;
      item = ap (λ (y : ItemFound). y.item) same;
    }

assign_was : (k : ℕ) (ts : List TokenTree) (x : ItemFound) → assign_from ts ≡ Some x → IsItemRead k (Word KeyAssign ∷ ts) x
assign_was k ts x h =
    let found = bind_some (drive_list ts) (λ e. after_mark Semicolon e.1 >>= λ us. Some (item_found [] (assigns e.0) us)) x h in
    let end = bind_some (after_mark Semicolon found.0.1) (λ us. Some (item_found [] (assigns found.0.0) us)) x found.2 in
    let same : item_found [] (assigns found.0.0) end.0 ≡ x = some_same _ _ end.2 in
    let list : IsList drive_tokens drive_out IsDrive ts found.0 = drives_was ts found.0 found.1 in
    record {
      form = AssignItem list.first list.more;
      is = record {
        is = list.fits;
        apart = tt;
        whole = ap (λ l. Word KeyAssign ∷ l) (list.whole ∙ ap (λ l. drive_tokens list.first ++ (comma_tokens drive_tokens list.more ++ l))
            (mark_was Semicolon found.0.1 end.0 end.1 ∙ ap (λ (y : ItemFound). Mark Semicolon ∷ y.rest) same)
            ∙ sym (append_assoc (drive_tokens list.first) (comma_tokens drive_tokens list.more ++ Mark Semicolon ∷ []) x.rest ∙
            ap (λ l. drive_tokens list.first ++ l) (append_assoc (comma_tokens drive_tokens list.more) (Mark Semicolon ∷ []) x.rest)));
      };
      nets = ap (λ (y : ItemFound). y.nets) same;
      item = ap assigns (sym (singles drive_of (list.first ∷ list.more)) ∙ list.same) ∙ ap (λ (y : ItemFound). y.item) same;
    }

clock_was : (ts : List TokenTree) (c : List ℕ × List TokenTree) → clock_from ts ≡ Some c → ts ≡ Mark At ∷ Mark Open ∷ Word Posedge ∷ Name c.0 ∷ Mark Close ∷ c.1
clock_was ts c h =
    let at = bind_some (after_mark At ts) (λ us. after_mark Open us >>= λ vs. after_word Posedge vs >>= λ ws. first_name ws >>= λ n. after_mark Close
    n.1 >>= λ rest. Some (n.0, rest)) c h in
    let opened = bind_some (after_mark Open at.0) (λ vs. after_word Posedge vs >>= λ ws. first_name ws >>= λ n. after_mark Close n.1 >>= λ rest. Some
    (n.0, rest)) c at.2 in
    let edge = bind_some (after_word Posedge opened.0) (λ ws. first_name ws >>= λ n. after_mark Close n.1 >>= λ rest. Some (n.0, rest)) c opened.2 in
    let n = bind_some (first_name edge.0) (λ n. after_mark Close n.1 >>= λ rest. Some (n.0, rest)) c edge.2 in
    let close = bind_some (after_mark Close n.0.1) (λ rest. Some (n.0.0, rest)) c n.2 in
    let same : (n.0.0, close.0) ≡ c = some_same _ _ close.2 in
    mark_was At ts at.0 at.1 ∙ ap (λ l. Mark At ∷ l) (mark_was Open at.0 opened.0 opened.1 ∙
    ap (λ l. Mark Open ∷ l) (word_was Posedge opened.0 edge.0 edge.1 ∙
    ap (λ l. Word Posedge ∷ l) (name_was edge.0 n.0 n.1 ∙ ap (λ l. Name n.0.0 ∷ l) (mark_was Close n.0.1 close.0 close.1) ∙
    ap (λ (p : List ℕ × List TokenTree). Name p.0 ∷ Mark Close ∷ p.1) same)))

always_was : (k : ℕ) (ts : List TokenTree) (x : ItemFound) → always_from ts ≡ Some x → IsItemRead k (Word KeyAlways ∷ ts) x
always_was k ts x h =
    let clock = bind_some (clock_from ts) (λ c. whole_statement c.1 >>= λ s. Some (item_found [] (always c.0 s.tree) s.rest)) x h in
    let body = bind_some (whole_statement clock.0.1) (λ s. Some (item_found [] (always clock.0.0 s.tree) s.rest)) x clock.2 in
    let s : StmtFound = body.0 in
    let a : IsStmt clock.0.1 s = whole_stmt_sound clock.0.1 s body.1 in
    let same : item_found [] (always clock.0.0 s.tree) s.rest ≡ x = some_same _ _ body.2 in
    subst (IsItemRead k (Word KeyAlways ∷ ts)) same (record {
      form = AlwaysItem clock.0.0 a.form;
      is = record {
        is = record { statement = a.statement; formed = a.formed; depth = a.small };
        apart = free_to a.form s.rest a.free;
        whole = ap (λ l. Word KeyAlways ∷ l) (clock_was ts clock.0 clock.1 ∙
            ap (λ l. Mark At ∷ Mark Open ∷ Word Posedge ∷ Name clock.0.0 ∷ Mark Close ∷ l) a.whole);
      };
      nets = refl;
      item = ap (always clock.0.0) a.same_tree;
    })

-- which token begins so
abbrev Begun : ItemStart → TokenTree → Type 0
Begun StartWire t = t ≡ Word KeyWire
Begun StartReg t = t ≡ Word KeyReg
Begun StartAssign t = t ≡ Word KeyAssign
Begun StartAlways t = t ≡ Word KeyAlways
Begun NoItemStart t = Unit {0}

begun : (t : TokenTree) → Begun (item_start t) t
begun (Word k) = elim k as (λ k. Begun (item_start (Word k)) (Word k)) [ KeyWire ↦ refl | KeyReg ↦ refl | KeyAssign ↦ refl | KeyAlways ↦ refl | _ ↦ tt ]
begun (Name n) = tt
begun Unused = tt
begun Zero = tt
begun (Decimal n) = tt
begun (Sized size value fits) = tt
begun (Mark s) = tt

from_was : (k : ℕ) (s : ItemStart) (t : TokenTree) (ts : List TokenTree) (x : ItemFound) → Begun s t → item_from k s ts ≡ Some x → IsItemRead k (t ∷ ts) x
from_was k StartWire t ts x is h =
    let ranged = bind_some (range ts) (λ r. wires k r.0 r.1 (has_equals r.1)) x h in
    let r : IsRange ts ranged.0 = range_was ts ranged.0 ranged.1 in
    let w = wire_was k r.form ranged.0.1 (has_equals ranged.0.1) x (ap (λ v. wires k v ranged.0.1 (has_equals ranged.0.1)) r.value ∙ ranged.2) in
    record {
      form = w.0;
      is = record { is = w.1; apart = w.2 x.rest; whole = (λ i. is i ∷ r.whole i) ∙ w.3 };
      nets = w.4;
      item = w.5;
    }
from_was k StartReg t ts x is h =
    let ranged = bind_some (range ts) (λ r. regs k r.0 r.1) x h in
    let r : IsRange ts ranged.0 = range_was ts ranged.0 ranged.1 in
    subst (λ l. IsItemRead k l x) (sym (λ i. is i ∷ r.whole i)) (reg_item_was k r.form ranged.0.1 x (ap (λ v. regs k v ranged.0.1) r.value ∙ ranged.2))
from_was k StartAssign t ts x is h = subst (λ t. IsItemRead k (t ∷ ts) x) (sym is) (assign_was k ts x h)
from_was k StartAlways t ts x is h = subst (λ t. IsItemRead k (t ∷ ts) x) (sym is) (always_was k ts x h)
from_was k NoItemStart t ts x is h = absurd (let e : None ≡ Some x = h in cc)

pub item_was : (k : ℕ) (ts : List TokenTree) (x : ItemFound) → item_at k ts ≡ Some x → IsItemRead k ts x
item_was k [] x h = absurd (let e : None ≡ Some x = h in cc)
item_was k (t ∷ ts) x h = from_was k (item_start t) t ts x (begun t) h
