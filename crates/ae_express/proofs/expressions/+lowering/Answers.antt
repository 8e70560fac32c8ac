use Rattle.std.proofs.Common.{◌≡◌, ◌+◌, ◌*◌, ◌≤◌, ◌^◌, [], ◌∷◌, ◌++◌, length, rules, false, sym, ap, subst, arith}
use Rattle.std.proofs.Math.Facts.{Fits-of_lt}
use Rattle.std.proofs.Math.Nat.{pow-le-pow_right}
use Rattle.ae_vmodule.specs.ModuleTree.{concat_more, concat_one}
use Rattle.ae_vmodule.specs.Numbered as n
use Rattle.ae_vmodule.specs.Numbered.{NumberedExpr, parts_in}
use Rattle.ae_vmodule.specs.Roots.{numbered}
use Rattle.ae_vmodule.specs.View.{expr_tree, word_at}
use Rattle.ae_judge.specs.Widths.{own_width}
use Rattle.ae_judge.specs.Weight.{expr_weight}
use Rattle.ae_judge.specs.Faults.{is_place}
use Rattle.ae_netlist.specs.Room.{HasRoom}
use Rattle.ae_order.specs.Sound.{IsReadyFor, IsSound, IsSoundIndex, place_number}
use Rattle.ae_express.specs.Asked.{EndsWith, part_widths}
use Rattle.ae_gates.proofs.Words.{grows_trans}
use Rattle.ae_order.proofs.SoundLaws.{sound_high, sound_low}
use Rattle.ae_express.proofs.NetLaws.{nets_grow}
use Rattle.ae_express.proofs.PartLaws.{SoFar, by_itself, first_part, last_part, next_part}
use Rattle.ae_express.proofs.AskedLaws.{ends_front, ends_some, ends_tail, last_of, taken_both, taken_part}
use Rattle.ae_express.proofs.Lowered.{index_lowered, not_lowered, flip_lowered, constant_lowered, binary_lowered, choice_lowered, one_lowered, more_lowered}
use Rattle.ae_express.proofs.expressions.+lowering.Goals as goal

pub lower-fixed-requires-clause-fits : goal.lower-fixed-requires-clause-fits
lower-fixed-requires-clause-fits t c =
    let ns = c.args.names.now.nets in
    let tree = expr_tree c.args.names.now.words in
    let is : numbered c.args.e ≡ n.constant c.in-Const.size c.in-Const.value _ = sym c.in-Const.ensures in
    let s : IsSound ns (tree (numbered c.args.e)) = c.requires.sound in
    let q = rw is at s in
    let w = rw is at c.requires.within in
    let p : 2 ^ c.in-Const.size ≤ 2 ^ c.args.w = pow-le-pow_right (omega arith) w in
    let small = q.2 in
    omega arith

pub lower-returns-in_ok-x-in-None-clause-lowered : goal.lower-returns-in_ok-x-in-None-clause-lowered
lower-returns-in_ok-x-in-None-clause-lowered t c =
    let ns = c.args.names.now.nets in
    let ws = c.args.names.now.words in
    let at = expr_tree ws (numbered c.in-Index.at) in
    let is : numbered c.args.e ≡ n.index c.in-Index.name (numbered c.in-Index.at) = sym c.in-Index.ensures in
    let s : IsSound ns (expr_tree ws (numbered c.args.e)) = c.requires.sound in
    let q = rw is at s in
    let none : is_place at ≡ false = c.in-None.ensures.none ws in
    let v = subst (λ b. IsSoundIndex b ns (word_at ws c.in-Index.name) (place_number at) (own_width ns at) (IsSound ns at)) none q.1 in
    rw is
    (index_lowered c.args.from ns c.args.nets.now c.args.nl.now c.lower.new.nl c.read_word.new.nl c.read_word.result
    (word_at ws c.in-Index.name) _ _ c.args.w at v.memory c.own_width-own.ensures.own c.in_ok-x-in-None.ensures.lowered
    (record { adds = c.read_word.ensures.adds; net = c.read_word.ensures.net })
    c.read_word.ensures.word)

pub lower_unary-returns-in_ok-zero-in-Not-clause-lowered : goal.lower_unary-returns-in_ok-zero-in-Not-clause-lowered
lower_unary-returns-in_ok-zero-in-Not-clause-lowered t c =
    let a = expr_tree c.args.names.now.words (numbered c.args.a) in
    rw c.in-Not.is
    (not_lowered c.args.from c.args.names.now.nets c.args.nets.now c.args.nl.now c.lower.new.nl c.is_zero.new.nl c.widen.new.nl c.widen.result _ _ _ c.args.w
    a c.own_width-own.ensures.own
    c.in_ok-x-in-Not.ensures.lowered c.in_ok-zero-in-Not.ensures.adds.grows c.in_ok-zero-in-Not.ensures.adds.more c.in_ok-zero-in-Not.ensures.adds.few
    (record { adds = c.widen.ensures.adds; net = c.widen.ensures.net })
    c.in_ok-zero-in-Not.ensures.word c.widen.ensures.word)

pub lower_unary-returns-in_ok-x-in-Flip-clause-lowered : goal.lower_unary-returns-in_ok-x-in-Flip-clause-lowered
lower_unary-returns-in_ok-x-in-Flip-clause-lowered t c =
    rw c.in-Flip.is
    (flip_lowered c.args.from c.args.names.now.nets c.args.nets.now c.args.nl.now c.lower-in-Flip.new.nl c.gate.new.nl c.gate.result _ c.args.w
    (expr_tree c.args.names.now.words (numbered c.args.a))
    c.in_ok-x-in-Flip.ensures.lowered
    (record { adds = c.gate.ensures.adds; net = c.gate.ensures.net }) c.gate.ensures.word)

pub lower-returns-in_ok-x-in-Some-fixed_shift-clause-lowered : goal.lower-returns-in_ok-x-in-Some-fixed_shift-clause-lowered
lower-returns-in_ok-x-in-Some-fixed_shift-clause-lowered t c =
    let tree = expr_tree c.args.names.now.words in
    let k = c.in-Binary in
    let is : numbered c.args.e ≡ n.binary k.op (numbered k.a) (numbered k.b) = sym k.ensures in
    rw is
    (constant_lowered c.args.from c.args.names.now.nets c.args.nets.now c.args.nl.now c.lower-in-Some-fixed_shift.new.nl c.moved_by.new.nl c.moved_by.result
    k.op c.in-Some-fixed_shift.way _ c.in-Some-fixed_shift.places c.args.w (tree (numbered k.a)) (tree (numbered k.b))
    c.in-Some-fixed_shift.ensures.way (c.in-Some-fixed_shift.ensures.places c.args.names.now.words) c.in_ok-x-in-Some-fixed_shift.ensures.lowered
    (record { adds = c.moved_by.ensures.adds; net = c.moved_by.ensures.net })
    c.moved_by.ensures.word)

pub lower-returns-in_ok-y-in-None-fixed_shift-clause-lowered : goal.lower-returns-in_ok-y-in-None-fixed_shift-clause-lowered
lower-returns-in_ok-y-in-None-fixed_shift-clause-lowered t c =
    let tree = expr_tree c.args.names.now.words in
    let k = c.in-Binary in
    let is : numbered c.args.e ≡ n.binary k.op (numbered k.a) (numbered k.b) = sym k.ensures in
    rw is
    (binary_lowered c.args.from c.args.names.now.nets c.args.nets.now c.args.nl.now c.lower-in-None-fixed_shift.new.nl c.lower-in-None-fixed_shift-2.new.nl
    c.combine.new.nl c.combine.result k.op _ _ _ _ c.args.w (tree (numbered k.a)) (tree (numbered k.b))
    c.operand_widths-wa.ensures.left c.operand_widths-wa.ensures.right (c.in-None-fixed_shift.ensures.none c.args.names.now.words)
    c.in_ok-x-in-None-fixed_shift.ensures.lowered c.in_ok-y-in-None-fixed_shift.ensures.lowered
    (record { adds = c.combine.ensures.adds; net = c.combine.ensures.net })
    c.combine.ensures.word)

pub lower-returns-in_ok-y-in-Choose-clause-lowered : goal.lower-returns-in_ok-y-in-Choose-clause-lowered
lower-returns-in_ok-y-in-Choose-clause-lowered t c =
    let tree = expr_tree c.args.names.now.words in
    let k = c.in-Choose in
    let is : numbered c.args.e ≡ n.choice (numbered k.test) (numbered k.a) (numbered k.b) = sym k.ensures in
    rw is
    (choice_lowered c.args.from c.args.names.now.nets c.args.nets.now c.args.nl.now c.lower-in-Choose.new.nl c.lower-in-Choose-2.new.nl
    c.lower-in-Choose-3.new.nl c.chosen.new.nl c.chosen.result _ _ _ _ c.args.w (tree (numbered k.test)) (tree (numbered k.a)) (tree (numbered k.b))
    c.own_width-own-in-Choose.ensures.own c.in_ok-t-in-Choose.ensures.lowered c.in_ok-x-in-Choose.ensures.lowered c.in_ok-y-in-Choose.ensures.lowered
    (record { adds = c.chosen.ensures.adds; net = c.chosen.ensures.net }) c.chosen.ensures.word)

-- what is left for each operand
pub lower-lower-requires-in-None-fixed_shift : goal.lower-lower-requires-in-None-fixed_shift
lower-lower-requires-in-None-fixed_shift t c =
    let ns = c.args.names.now.nets in
    let tree = expr_tree c.args.names.now.words in
    let k = c.in-Binary in
    let is : numbered c.args.e ≡ n.binary k.op (numbered k.a) (numbered k.b) = sym k.ensures in
    let s = c.args.widths.now.items in
    let a = part_widths ns (tree (numbered k.a)) in
    let b = part_widths ns (tree (numbered k.b)) in
    let r : EndsWith s (part_widths ns (tree (numbered c.args.e))) = c.requires.widths in
    let h : EndsWith s (b ++ a) = rw is at r in
    let widths = ends_tail s b a h in
    search (rules, widths)

pub lower-lower-requires-in-None-fixed_shift-2 : goal.lower-lower-requires-in-None-fixed_shift-2
lower-lower-requires-in-None-fixed_shift-2 t c =
    let ns = c.args.names.now.nets in
    let tree = expr_tree c.args.names.now.words in
    let k = c.in-Binary in
    let is : numbered c.args.e ≡ n.binary k.op (numbered k.a) (numbered k.b) = sym k.ensures in
    let s = c.args.widths.now.items in
    let a = part_widths ns (tree (numbered k.a)) in
    let b = part_widths ns (tree (numbered k.b)) in
    let r : EndsWith s (part_widths ns (tree (numbered c.args.e))) = c.requires.widths in
    let h : EndsWith s (b ++ a) = rw is at r in
    let left = c.lower-in-None-fixed_shift.new.widths.items in
    let e : s ≡ left ++ a = c.in_ok-x-in-None-fixed_shift.ensures.widths in
    let widths = ends_front s left b a h e in
    search (rules, widths)

pub lower-lower-requires-in-Choose : goal.lower-lower-requires-in-Choose
lower-lower-requires-in-Choose t c =
    let ns = c.args.names.now.nets in
    let tree = expr_tree c.args.names.now.words in
    let k = c.in-Choose in
    let is : numbered c.args.e ≡ n.choice (numbered k.test) (numbered k.a) (numbered k.b) = sym k.ensures in
    let s = c.args.widths.now.items in
    let a = part_widths ns (tree (numbered k.a)) in
    let b = part_widths ns (tree (numbered k.b)) in
    let test = part_widths ns (tree (numbered k.test)) in
    let r : EndsWith s (part_widths ns (tree (numbered c.args.e))) = c.requires.widths in
    let h : EndsWith s (b ++ a ++ test) = rw is at r in
    let widths = ends_tail s (b ++ a) test h in
    search (rules, widths)

pub lower-lower-requires-in-Choose-2 : goal.lower-lower-requires-in-Choose-2
lower-lower-requires-in-Choose-2 t c =
    let ns = c.args.names.now.nets in
    let tree = expr_tree c.args.names.now.words in
    let k = c.in-Choose in
    let is : numbered c.args.e ≡ n.choice (numbered k.test) (numbered k.a) (numbered k.b) = sym k.ensures in
    let s = c.args.widths.now.items in
    let a = part_widths ns (tree (numbered k.a)) in
    let b = part_widths ns (tree (numbered k.b)) in
    let test = part_widths ns (tree (numbered k.test)) in
    let r : EndsWith s (part_widths ns (tree (numbered c.args.e))) = c.requires.widths in
    let h : EndsWith s (b ++ a ++ test) = rw is at r in
    let left = c.lower-in-Choose.new.widths.items in
    let e : s ≡ left ++ test = c.in_ok-t-in-Choose.ensures.widths in
    let widths = ends_tail left b a (ends_front s left (b ++ a) test h e) in
    search (rules, widths)

pub lower-lower-requires-in-Choose-3 : goal.lower-lower-requires-in-Choose-3
lower-lower-requires-in-Choose-3 t c =
    let ns = c.args.names.now.nets in
    let tree = expr_tree c.args.names.now.words in
    let k = c.in-Choose in
    let is : numbered c.args.e ≡ n.choice (numbered k.test) (numbered k.a) (numbered k.b) = sym k.ensures in
    let s = c.args.widths.now.items in
    let a = part_widths ns (tree (numbered k.a)) in
    let b = part_widths ns (tree (numbered k.b)) in
    let test = part_widths ns (tree (numbered k.test)) in
    let r : EndsWith s (part_widths ns (tree (numbered c.args.e))) = c.requires.widths in
    let h : EndsWith s (b ++ a ++ test) = rw is at r in
    let left = c.lower-in-Choose.new.widths.items in
    let e : s ≡ left ++ test = c.in_ok-t-in-Choose.ensures.widths in
    let last = c.lower-in-Choose-2.new.widths.items in
    let f : left ≡ last ++ a = c.in_ok-x-in-Choose.ensures.widths in
    let widths = ends_front left last b a (ends_front s left (b ++ a) test h e) f in
    search (rules, widths)

-- a concatenation of one part, and one of several
pub lower-lower-requires-in-One : goal.lower-lower-requires-in-One
lower-lower-requires-in-One t c =
    let ns = c.args.names.now.nets in
    let tree = expr_tree c.args.names.now.words in
    let k = c.in-One in
    let a = tree (numbered k.a) in
    let is : numbered c.args.e ≡ n.concat_one (numbered k.a) = sym k.ensures in
    let sound : IsSound ns a = subst (λ (e : NumberedExpr). IsSound ns (tree e)) is c.requires.sound in
    let ready : IsReadyFor ns c.args.nets.now a = subst (λ (e : NumberedExpr). IsReadyFor ns c.args.nets.now (tree e)) is c.requires.ready in
    let ends : EndsWith c.args.widths.now.items (part_widths ns a ++ own_width ns a ∷ []) =
    subst (λ (e : NumberedExpr). EndsWith c.args.widths.now.items (part_widths ns (tree e))) is c.requires.widths in
    let last = last_of c.args.widths.now.items c.last_width-own.new.widths.items (part_widths ns a) (own_width ns a) c.last_width-own.result ends
    c.last_width-own.ensures in
    let own = last.0 in
    let least = sound_low ns a sound in
    let most = sound_high ns a sound in
    let weight = ap (λ (e : NumberedExpr). expr_weight (tree e)) is in
    let had = c.requires.room in
    let before = c.requires.from in
    let low : 1 ≤ c.last_width-own.result = omega arith in
    let high : c.last_width-own.result ≤ 64 = omega arith in
    let within : own_width ns a ≤ c.last_width-own.result = omega arith in
    let room : HasRoom c.args.nl.now (8 * expr_weight a + 1) = omega arith in
    let from : c.args.from ≤ length c.args.nl.now.cells = omega arith in
    let nets = c.requires.nets in
    let sound_part = sound in
    let ready_part = ready in
    let widths = last.1 in
    search (rules, from, nets, sound_part, ready_part, low, high, within, room, widths)

pub lower-returns-in_ok-x-in-One-clause-lowered : goal.lower-returns-in_ok-x-in-One-clause-lowered
lower-returns-in_ok-x-in-One-clause-lowered t c =
    let ns = c.args.names.now.nets in
    let tree = expr_tree c.args.names.now.words in
    let k = c.in-One in
    let a = tree (numbered k.a) in
    let is : numbered c.args.e ≡ n.concat_one (numbered k.a) = sym k.ensures in
    let ends : EndsWith c.args.widths.now.items (part_widths ns a ++ own_width ns a ∷ []) =
    subst (λ (e : NumberedExpr). EndsWith c.args.widths.now.items (part_widths ns (tree e))) is c.requires.widths in
    let last = last_of c.args.widths.now.items c.last_width-own.new.widths.items (part_widths ns a) (own_width ns a) c.last_width-own.result ends
    c.last_width-own.ensures in
    rw is
    (one_lowered c.args.from ns c.args.nets.now c.args.nl.now c.lower-in-One.new.nl c.widen.new.nl c.widen.result _ _ c.args.w a last.0
    c.in_ok-x-in-One.ensures.lowered
    (record { adds = c.widen.ensures.adds; net = c.widen.ensures.net })
    c.widen.ensures.word)

pub lower-returns-in_ok-x-in-More-clause-lowered : goal.lower-returns-in_ok-x-in-More-clause-lowered
lower-returns-in_ok-x-in-More-clause-lowered t c =
    let tree = expr_tree c.args.names.now.words in
    let k = c.in-More in
    let w = c.widen-in-More in
    let is : numbered c.args.e ≡ n.concat_more (numbered k.a) (numbered k.rest) = sym k.ensures in
    rw is
    (more_lowered c.args.from c.args.names.now.nets c.args.nets.now c.args.nl.now c.lower_parts.new.nl w.new.nl w.result _ _ c.args.w
    (tree (numbered k.a)) (tree (numbered k.rest)) c.in_ok-x-in-More.ensures.lowered
    (record { adds = w.ensures.adds; net = w.ensures.net })
    w.ensures.word)

-- the first part
pub lower_parts-lower-requires : goal.lower_parts-lower-requires
lower_parts-lower-requires t c =
    let ns = c.args.names.now.nets in
    let tree = expr_tree c.args.names.now.words in
    let a = tree (numbered c.args.first) in
    let rest = tree (numbered c.args.rest) in
    let s = c.args.widths.now.items in
    let ends = ends_tail s (part_widths ns rest) (part_widths ns a ++ own_width ns a ∷ []) c.requires.widths in
    let last = last_of s c.last_width-own.new.widths.items (part_widths ns a) (own_width ns a) c.last_width-own.result ends c.last_width-own.ensures in
    let own = last.0 in
    let least = sound_low ns a c.requires.sound.0 in
    let most = sound_high ns a c.requires.sound.0 in
    let had = c.requires.room in
    let before = c.requires.from in
    let low : 1 ≤ c.last_width-own.result = omega arith in
    let high : c.last_width-own.result ≤ 64 = omega arith in
    let within : own_width ns a ≤ c.last_width-own.result = omega arith in
    let room : HasRoom c.args.nl.now (8 * expr_weight a + 1) = omega arith in
    let from : c.args.from ≤ length c.args.nl.now.cells = omega arith in
    let nets = c.requires.nets in
    let sound_part = c.requires.sound.0 in
    let ready_part = c.requires.ready.0 in
    let widths = last.1 in
    search (rules, from, nets, sound_part, ready_part, low, high, within, room, widths)

pub lower_parts-part-init : goal.lower_parts-part-init
lower_parts-part-init t c =
    let ns = c.args.names.now.nets in
    let tree = expr_tree c.args.names.now.words in
    let a = tree (numbered c.args.first) in
    let rest = tree (numbered c.args.rest) in
    let s = c.args.widths.now.items in
    let left = c.lower.new.widths.items in
    let behind = c.last_width-own.new.widths.items in
    let of_first = part_widths ns a ++ own_width ns a ∷ [] in
    let ends = ends_tail s (part_widths ns rest) of_first c.requires.widths in
    let last = last_of s behind (part_widths ns a) (own_width ns a) c.last_width-own.result ends c.last_width-own.ensures in
    let taken : s ≡ left ++ of_first =
    taken_part s behind left (part_widths ns a) (own_width ns a) c.last_width-own.result c.last_width-own.ensures last.0 c.in_ok-x.ensures.widths in
    let own = last.0 in
    let least = sound_low ns a c.requires.sound.0 in
    let low = c.in_ok-x.ensures.lowered in
    let few = low.few in
    record {
      grows = low.grows;
      more = low.more;
      few = omega arith;
      own = omega arith;
      low = omega arith;
      net = low.net;
      nets = low.nets;
      sound = c.requires.sound.1;
      ready = c.requires.ready.1;
      widths = ends_front s left (part_widths ns rest) of_first c.requires.widths taken;
      taken = λ u e. taken_both s left u (part_widths ns rest) of_first taken e;
      word = λ at named. first_part c.args.from ns at _ _ _ a rest (by_itself c.args.from ns at _ _ _ a own (low.word at named));
      fewer = omega arith;
    }

-- the next part
pub lower_parts-last_width-wide-requires : goal.lower_parts-last_width-wide-requires
lower_parts-last_width-wide-requires t c =
    let ns = c.args.names.now.nets in
    let tree = expr_tree c.args.names.now.words in
    let k = c.in-More in
    let a = tree (numbered k.part) in
    let more = tree (numbered k.more) in
    let is : numbered c.part.parts ≡ n.concat_more (numbered k.part) (numbered k.more) = sym k.ensures in
    let s = c.part.widths.items in
    let of_part = part_widths ns a ++ own_width ns a ∷ [] in
    let ends : EndsWith s (part_widths ns more ++ of_part) = subst (λ (e : NumberedExpr). EndsWith s (part_widths ns (tree e))) is c.part.invariant.widths in
    record { some = ends_some s (part_widths ns a) (own_width ns a) (ends_tail s (part_widths ns more) of_part ends) }

pub lower_parts-lower-requires-in-More : goal.lower_parts-lower-requires-in-More
lower_parts-lower-requires-in-More t c =
    let ns = c.args.names.now.nets in
    let tree = expr_tree c.args.names.now.words in
    let i = c.part.invariant in
    let k = c.in-More in
    let a = tree (numbered k.part) in
    let more = tree (numbered k.more) in
    let is : numbered c.part.parts ≡ n.concat_more (numbered k.part) (numbered k.more) = sym k.ensures in
    let s = c.part.widths.items in
    let of_part = part_widths ns a ++ own_width ns a ∷ [] in
    let ends : EndsWith s (part_widths ns more ++ of_part) = subst (λ (e : NumberedExpr). EndsWith s (part_widths ns (tree e))) is i.widths in
    let last = last_of s c.last_width-wide.new.widths.items (part_widths ns a) (own_width ns a) c.last_width-wide.result
    (ends_tail s (part_widths ns more) of_part ends) c.last_width-wide.ensures in
    let sound : IsSound ns (concat_more a more) = subst (λ (e : NumberedExpr). IsSound ns (tree e)) is i.sound in
    let ready : IsReadyFor ns c.args.nets.now (concat_more a more) = subst (λ (e : NumberedExpr). IsReadyFor ns c.args.nets.now (tree e)) is i.ready in
    let own = last.0 in
    let least = sound_low ns a sound.0 in
    let most = sound_high ns a sound.0 in
    let weight = ap (λ (e : NumberedExpr). expr_weight (tree e)) is in
    let had = c.requires.room in
    let before = c.requires.from in
    let longer = i.more in
    let few = i.few in
    let limit = i.grows.grows.limit in
    let low : 1 ≤ c.last_width-wide.result = omega arith in
    let high : c.last_width-wide.result ≤ 64 = omega arith in
    let within : own_width ns a ≤ c.last_width-wide.result = omega arith in
    let room : HasRoom c.part.nl (8 * expr_weight a + 1) = omega arith in
    let from : c.args.from ≤ length c.part.nl.cells = omega arith in
    let nets = i.nets in
    let sound_part = sound.0 in
    let ready_part = ready.0 in
    let widths = last.1 in
    search (rules, from, nets, sound_part, ready_part, low, high, within, room, widths)

pub lower_parts-linked-requires-clause-high : goal.lower_parts-linked-requires-clause-high
lower_parts-linked-requires-clause-high t c =
    let ns = c.args.names.now.nets in
    let tree = expr_tree c.args.names.now.words in
    let i = c.part.invariant in
    let k = c.in-More in
    let a = tree (numbered k.part) in
    let more = tree (numbered k.more) in
    let is : numbered c.part.parts ≡ n.concat_more (numbered k.part) (numbered k.more) = sym k.ensures in
    let s = c.part.widths.items in
    let of_part = part_widths ns a ++ own_width ns a ∷ [] in
    let ends : EndsWith s (part_widths ns more ++ of_part) = subst (λ (e : NumberedExpr). EndsWith s (part_widths ns (tree e))) is i.widths in
    let own = (last_of s c.last_width-wide.new.widths.items (part_widths ns a) (own_width ns a) c.last_width-wide.result
    (ends_tail s (part_widths ns more) of_part ends) c.last_width-wide.ensures).0 in
    let wide = ap (λ (e : NumberedExpr). own_width ns (tree e)) is in
    let so_far = i.own in
    let most = sound_high ns (concat_more (tree (numbered c.args.first)) (tree (numbered c.args.rest))) c.requires.sound in
    omega arith

pub lower_parts-overflow_add-own : goal.lower_parts-overflow_add-own
lower_parts-overflow_add-own t c =
    let ns = c.args.names.now.nets in
    let tree = expr_tree c.args.names.now.words in
    let i = c.part.invariant in
    let k = c.in-More in
    let a = tree (numbered k.part) in
    let more = tree (numbered k.more) in
    let is : numbered c.part.parts ≡ n.concat_more (numbered k.part) (numbered k.more) = sym k.ensures in
    let s = c.part.widths.items in
    let of_part = part_widths ns a ++ own_width ns a ∷ [] in
    let ends : EndsWith s (part_widths ns more ++ of_part) = subst (λ (e : NumberedExpr). EndsWith s (part_widths ns (tree e))) is i.widths in
    let own = (last_of s c.last_width-wide.new.widths.items (part_widths ns a) (own_width ns a) c.last_width-wide.result
    (ends_tail s (part_widths ns more) of_part ends) c.last_width-wide.ensures).0 in
    let wide = ap (λ (e : NumberedExpr). own_width ns (tree e)) is in
    let so_far = i.own in
    let most = sound_high ns (concat_more (tree (numbered c.args.first)) (tree (numbered c.args.rest))) c.requires.sound in
    Fits-of_lt (omega arith)

pub lower_parts-part-preserved : goal.lower_parts-part-preserved
lower_parts-part-preserved t c =
    let ns = c.args.names.now.nets in
    let tree = expr_tree c.args.names.now.words in
    let i = c.part.invariant in
    let k = c.in-More in
    let a = tree (numbered k.part) in
    let more = tree (numbered k.more) in
    let whole = concat_more (tree (numbered c.args.first)) (tree (numbered c.args.rest)) in
    let is : numbered c.part.parts ≡ n.concat_more (numbered k.part) (numbered k.more) = sym k.ensures in
    let s = c.part.widths.items in
    let behind = c.last_width-wide.new.widths.items in
    let left = c.lower-in-More.new.widths.items in
    let of_part = part_widths ns a ++ own_width ns a ∷ [] in
    let ends : EndsWith s (part_widths ns more ++ of_part) = subst (λ (e : NumberedExpr). EndsWith s (part_widths ns (tree e))) is i.widths in
    let last = last_of s behind (part_widths ns a) (own_width ns a) c.last_width-wide.result (ends_tail s (part_widths ns more) of_part ends)
    c.last_width-wide.ensures in
    let low = c.in_ok-low-in-More.ensures.lowered in
    let x = c.in_ok-x-in-More.ensures in
    let taken : s ≡ left ++ of_part =
    taken_part s behind left (part_widths ns a) (own_width ns a) c.last_width-wide.result c.last_width-wide.ensures last.0
    c.in_ok-low-in-More.ensures.widths in
    let sound : IsSound ns (concat_more a more) = subst (λ (e : NumberedExpr). IsSound ns (tree e)) is i.sound in
    let ready : IsReadyFor ns c.args.nets.now (concat_more a more) = subst (λ (e : NumberedExpr). IsReadyFor ns c.args.nets.now (tree e)) is i.ready in
    let own = last.0 in
    let wide = ap (λ (e : NumberedExpr). own_width ns (tree e)) is in
    let weight = ap (λ (e : NumberedExpr). expr_weight (tree e)) is in
    let parts = ap parts_in is in
    let so_far = i.own in
    let least = i.low in
    let few = i.few in
    let few_low = low.few in
    let few_linked = x.adds.few in
    let longer = i.more in
    let longer_low = low.more in
    let longer_linked = x.adds.more in
    let fewer = i.fewer in
    let g = grows_trans low.grows x.adds.grows in
    record {
      grows = grows_trans i.grows g;
      more = omega arith;
      few = omega arith;
      own = omega arith;
      low = omega arith;
      net = x.net;
      nets = nets_grow g i.nets;
      sound = sound.1;
      ready = ready.1;
      widths = ends_front s left (part_widths ns more) of_part ends taken;
      taken = λ u e. i.taken u (subst (λ (v : NumberedExpr). s ≡ u ++ part_widths ns (tree v)) k.ensures
          (taken_both s left u (part_widths ns more) of_part taken e));
      word = λ at named. next_part c.args.from ns at c.part.nl c.lower-in-More.new.nl c.linked.new.nl _ _ _ _ _ a more whole
          (subst (λ (v : NumberedExpr). SoFar c.args.from c.part.nl.cells c.part.x.0 c.part.own ns at (tree v) whole) is (i.word at named))
          low.grows own (by_itself c.args.from ns at _ _ _ a own (low.word at named)) x.word;
      fewer = omega arith;
    }

-- the last part
pub lower_parts-last_width-wide-requires-in-One : goal.lower_parts-last_width-wide-requires-in-One
lower_parts-last_width-wide-requires-in-One t c =
    let ns = c.args.names.now.nets in
    let tree = expr_tree c.args.names.now.words in
    let k = c.in-One in
    let a = tree (numbered k.part) in
    let is : numbered c.part.parts ≡ n.concat_one (numbered k.part) = sym k.ensures in
    let s = c.part.widths.items in
    let ends : EndsWith s (part_widths ns a ++ own_width ns a ∷ []) =
    subst (λ (e : NumberedExpr). EndsWith s (part_widths ns (tree e))) is c.part.invariant.widths in
    record { some = ends_some s (part_widths ns a) (own_width ns a) ends }

pub lower_parts-lower-requires-in-One : goal.lower_parts-lower-requires-in-One
lower_parts-lower-requires-in-One t c =
    let ns = c.args.names.now.nets in
    let tree = expr_tree c.args.names.now.words in
    let i = c.part.invariant in
    let k = c.in-One in
    let a = tree (numbered k.part) in
    let is : numbered c.part.parts ≡ n.concat_one (numbered k.part) = sym k.ensures in
    let s = c.part.widths.items in
    let w = c.last_width-wide-in-One in
    let ends : EndsWith s (part_widths ns a ++ own_width ns a ∷ []) = subst (λ (e : NumberedExpr). EndsWith s (part_widths ns (tree e))) is i.widths in
    let last = last_of s w.new.widths.items (part_widths ns a) (own_width ns a) w.result ends w.ensures in
    let sound : IsSound ns a = subst (λ (e : NumberedExpr). IsSound ns (tree e)) is i.sound in
    let ready : IsReadyFor ns c.args.nets.now a = subst (λ (e : NumberedExpr). IsReadyFor ns c.args.nets.now (tree e)) is i.ready in
    let own = last.0 in
    let least = sound_low ns a sound in
    let most = sound_high ns a sound in
    let weight = ap (λ (e : NumberedExpr). expr_weight (tree e)) is in
    let had = c.requires.room in
    let before = c.requires.from in
    let longer = i.more in
    let few = i.few in
    let limit = i.grows.grows.limit in
    let low : 1 ≤ w.result = omega arith in
    let high : w.result ≤ 64 = omega arith in
    let within : own_width ns a ≤ w.result = omega arith in
    let room : HasRoom c.part.nl (8 * expr_weight a + 1) = omega arith in
    let from : c.args.from ≤ length c.part.nl.cells = omega arith in
    let nets = i.nets in
    let sound_part = sound in
    let ready_part = ready in
    let widths = last.1 in
    search (rules, from, nets, sound_part, ready_part, low, high, within, room, widths)

pub lower_parts-linked-requires-in-One-clause-high : goal.lower_parts-linked-requires-in-One-clause-high
lower_parts-linked-requires-in-One-clause-high t c =
    let ns = c.args.names.now.nets in
    let tree = expr_tree c.args.names.now.words in
    let i = c.part.invariant in
    let k = c.in-One in
    let a = tree (numbered k.part) in
    let is : numbered c.part.parts ≡ n.concat_one (numbered k.part) = sym k.ensures in
    let s = c.part.widths.items in
    let w = c.last_width-wide-in-One in
    let ends : EndsWith s (part_widths ns a ++ own_width ns a ∷ []) = subst (λ (e : NumberedExpr). EndsWith s (part_widths ns (tree e))) is i.widths in
    let own = (last_of s w.new.widths.items (part_widths ns a) (own_width ns a) w.result ends w.ensures).0 in
    let wide = ap (λ (e : NumberedExpr). own_width ns (tree e)) is in
    let so_far = i.own in
    let most = sound_high ns (concat_more (tree (numbered c.args.first)) (tree (numbered c.args.rest))) c.requires.sound in
    omega arith

pub lower_parts-overflow_add-result : goal.lower_parts-overflow_add-result
lower_parts-overflow_add-result t c =
    let ns = c.args.names.now.nets in
    let tree = expr_tree c.args.names.now.words in
    let i = c.part.invariant in
    let k = c.in-One in
    let a = tree (numbered k.part) in
    let is : numbered c.part.parts ≡ n.concat_one (numbered k.part) = sym k.ensures in
    let s = c.part.widths.items in
    let w = c.last_width-wide-in-One in
    let ends : EndsWith s (part_widths ns a ++ own_width ns a ∷ []) = subst (λ (e : NumberedExpr). EndsWith s (part_widths ns (tree e))) is i.widths in
    let own = (last_of s w.new.widths.items (part_widths ns a) (own_width ns a) w.result ends w.ensures).0 in
    let wide = ap (λ (e : NumberedExpr). own_width ns (tree e)) is in
    let so_far = i.own in
    let most = sound_high ns (concat_more (tree (numbered c.args.first)) (tree (numbered c.args.rest))) c.requires.sound in
    Fits-of_lt (omega arith)

pub lower_parts-returns-in-One-clause-widths : goal.lower_parts-returns-in-One-clause-widths
lower_parts-returns-in-One-clause-widths t c =
    let ns = c.args.names.now.nets in
    let tree = expr_tree c.args.names.now.words in
    let i = c.part.invariant in
    let k = c.in-One in
    let a = tree (numbered k.part) in
    let is : numbered c.part.parts ≡ n.concat_one (numbered k.part) = sym k.ensures in
    let s = c.part.widths.items in
    let w = c.last_width-wide-in-One in
    let left = c.lower-in-One.new.widths.items in
    let ends : EndsWith s (part_widths ns a ++ own_width ns a ∷ []) = subst (λ (e : NumberedExpr). EndsWith s (part_widths ns (tree e))) is i.widths in
    let own = (last_of s w.new.widths.items (part_widths ns a) (own_width ns a) w.result ends w.ensures).0 in
    i.taken left (subst (λ (v : NumberedExpr). s ≡ left ++ part_widths ns (tree v)) k.ensures
    (taken_part s w.new.widths.items left (part_widths ns a) (own_width ns a) w.result w.ensures own c.in_ok-low-in-One.ensures.widths))

pub lower_parts-returns-in-One-clause-own : goal.lower_parts-returns-in-One-clause-own
lower_parts-returns-in-One-clause-own t c =
    let ns = c.args.names.now.nets in
    let tree = expr_tree c.args.names.now.words in
    let i = c.part.invariant in
    let k = c.in-One in
    let a = tree (numbered k.part) in
    let is : numbered c.part.parts ≡ n.concat_one (numbered k.part) = sym k.ensures in
    let s = c.part.widths.items in
    let w = c.last_width-wide-in-One in
    let ends : EndsWith s (part_widths ns a ++ own_width ns a ∷ []) = subst (λ (e : NumberedExpr). EndsWith s (part_widths ns (tree e))) is i.widths in
    let own = (last_of s w.new.widths.items (part_widths ns a) (own_width ns a) w.result ends w.ensures).0 in
    let wide = ap (λ (e : NumberedExpr). own_width ns (tree e)) is in
    let so_far = i.own in
    omega arith

pub lower_parts-returns-in-One-clause-lowered : goal.lower_parts-returns-in-One-clause-lowered
lower_parts-returns-in-One-clause-lowered t c =
    let ns = c.args.names.now.nets in
    let tree = expr_tree c.args.names.now.words in
    let i = c.part.invariant in
    let k = c.in-One in
    let a = tree (numbered k.part) in
    let whole = concat_more (tree (numbered c.args.first)) (tree (numbered c.args.rest)) in
    let is : numbered c.part.parts ≡ n.concat_one (numbered k.part) = sym k.ensures in
    let s = c.part.widths.items in
    let w = c.last_width-wide-in-One in
    let ends : EndsWith s (part_widths ns a ++ own_width ns a ∷ []) = subst (λ (e : NumberedExpr). EndsWith s (part_widths ns (tree e))) is i.widths in
    let own = (last_of s w.new.widths.items (part_widths ns a) (own_width ns a) w.result ends w.ensures).0 in
    let low = c.in_ok-low-in-One.ensures.lowered in
    let y = c.in_ok-y-in-One.ensures in
    let weight = ap (λ (e : NumberedExpr). expr_weight (tree e)) is in
    let few = i.few in
    let few_low = low.few in
    let few_linked = y.adds.few in
    let longer = i.more in
    let longer_low = low.more in
    let longer_linked = y.adds.more in
    let g = grows_trans low.grows y.adds.grows in
    record {
      grows = grows_trans i.grows g;
      more = omega arith;
      few = omega arith;
      net = y.net;
      nets = nets_grow g i.nets;
      word = λ at named. last_part c.args.from ns at c.part.nl c.lower-in-One.new.nl c.linked-in-One.new.nl _ _ _ _ _ (concat_one a) whole
          (subst (λ (v : NumberedExpr). SoFar c.args.from c.part.nl.cells c.part.x.0 c.part.own ns at (tree v) whole) is (i.word at named))
          low.grows own (by_itself c.args.from ns at _ _ _ a own (low.word at named)) y.word;
    }

-- what is no concatenation
pub lower_parts-returns-in_default : goal.lower_parts-returns-in_default
lower_parts-returns-in_default t c =
    let ns = c.args.names.now.nets in
    let left = expr_tree c.args.names.now.words (numbered c.part.parts) in
    let whole = concat_more (expr_tree c.args.names.now.words (numbered c.args.first)) (expr_tree c.args.names.now.words (numbered c.args.rest)) in
    let i = c.part.invariant in
    let own : c.own_width-wide.result ≡ own_width ns left = c.own_width-wide.ensures.own in
    let low = c.in_ok-low-in_default.ensures.lowered in
    let y = c.in_ok-y-in_default.ensures in
    let so_far = i.own in
    let few = i.few in
    let few_low = low.few in
    let few_linked = y.adds.few in
    let longer = i.more in
    let longer_low = low.more in
    let longer_linked = y.adds.more in
    let g = grows_trans low.grows y.adds.grows in
    record {
      widths = i.taken c.lower-in_default.new.widths.items c.in_ok-low-in_default.ensures.widths;
      own = omega arith;
      lowered = record {
        grows = grows_trans i.grows g;
        more = omega arith;
        few = omega arith;
        net = y.net;
        nets = nets_grow g i.nets;
        word = λ at named. last_part c.args.from ns at c.part.nl c.lower-in_default.new.nl c.linked-in_default.new.nl _ _ _ _ _ left whole
            (i.word at named) low.grows own (by_itself c.args.from ns at _ _ _ left own (low.word at named)) y.word;
      };
    }
