-- When the items of an instance arrive, and what instances cost, each by those before it.
use Rattle.std.specs.Prelude.{ℕ, ◌+◌, ◌-◌, ◌*◌, List, [], ◌∷◌, ◌++◌, map, length, take, sum_by, nat_lt, ◌==◌, Option, Some, None, slice_get, unwrap_or, if◌then◌else◌}
use Rattle.std.specs.List.{range_with_len, flat_map}
use Rattle.std.specs.Option.{option_and_then}
use Rattle.ae_seq.specs.Typing.{grown}
use Rattle.ae_sttype.specs.StTree.{StTree}
use Rattle.ae_sttype.specs.Moves.{columns_of, greatest}
use Rattle.ae_moves.specs.Rings.{rings}
use Rattle.ae_rewrite.specs.StProgramTree.{StNodeTree, StFuncTree}
use Rattle.ae_rewrite.specs.Sound.{item_layout, item_layouts}
use Rattle.ae_delay.specs.declared.own.OwnCosts.{OwnCosts}
use Rattle.ae_delay.specs.OwnCosts.{op_costs}

-- a use of an item, and by how many clocks the item is delayed for it
pub record Use : Type 0 where
  pub item : ℕ
  pub slack : ℕ

-- the latest arrival of these items, and 0 of none
abbrev pub latest : (arrivals : List ℕ) → (items : List ℕ) → ℕ
latest arrivals items = greatest (λ a. unwrap_or (slice_get arrivals a) 0) items

-- when all arguments of each of these nodes have come
abbrev pub meets_of : (arrivals : List ℕ) → List StNodeTree → List ℕ
meets_of arrivals ns = map (λ (n : StNodeTree). latest arrivals n.args) ns

-- those of the nodes of an instance, and behind them when all its results have come
abbrev pub func_meets : (arrivals : List ℕ) → StFuncTree → List ℕ
func_meets arrivals s = meets_of arrivals s.nodes ++ latest arrivals s.results ∷ []

-- items that are used together in clock `start`
abbrev pub uses_at : (arrivals : List ℕ) (start : ℕ) → (items : List ℕ) → List Use
uses_at arrivals start items = map (λ a. record { item = a; slack = start - unwrap_or (slice_get arrivals a) 0 }) items

-- the registers of the delays: each column is delayed on its own
abbrev pub slack_load : (layouts : List StTree) → List Use → ℕ
slack_load layouts us = sum_by (λ (u : Use). u.slack * columns_of (item_layout layouts u.item)) us

-- a node: when it arrives, what it costs with the delays of its arguments, and its uses of items
pub record NodeTiming : Type 0 where
  pub arrival : ℕ
  pub line : ℕ
  pub latency : ℕ
  pub load : ℕ
  pub muls : ℕ
  pub mems : ℕ
  pub uses : List Use

abbrev pub node_costs : (known : List OwnCosts) (layouts : List StTree) → StNodeTree → OwnCosts
node_costs known layouts n =
    op_costs known (item_layout layouts (unwrap_or (slice_get n.args 0) 0)) n.type n.copies n.op

abbrev pub node_uses : (arrivals : List ℕ) → StNodeTree → List Use
node_uses arrivals n = uses_at arrivals (latest arrivals n.args) n.args

abbrev pub node_timing : (known : List OwnCosts) (layouts : List StTree) (arrivals : List ℕ) → StNodeTree → NodeTiming
node_timing known layouts arrivals n = record {
  arrival = latest arrivals n.args + (node_costs known layouts n).latency;
  line = n.line;
  latency = (node_costs known layouts n).latency;
  load = (node_costs known layouts n).load + slack_load layouts (node_uses arrivals n);
  muls = (node_costs known layouts n).muls;
  mems = (node_costs known layouts n).mems;
  uses = node_uses arrivals n;
}

-- the arrivals of the parameters, all in clock 0, and of these nodes
abbrev pub arrivals_of : (ins : List StTree) → List NodeTiming → List ℕ
arrivals_of ins ts = map (λ s. 0) ins ++ map (λ (t : NodeTiming). t.arrival) ts

abbrev pub next_timing : (known : List OwnCosts) (s : StFuncTree) → List NodeTiming → StNodeTree → NodeTiming
next_timing known s ts n = node_timing known (item_layouts s) (arrivals_of s.ins ts) n

-- the nodes of an instance, each by the arrivals of those above it
abbrev pub node_timings : (known : List OwnCosts) → StFuncTree → List NodeTiming
node_timings known s = grown (next_timing known s) [] s.nodes

-- ---- of an instance with these nodes

abbrev pub func_latency : StFuncTree → List NodeTiming → ℕ
func_latency s ts = latest (arrivals_of s.ins ts) s.results

-- all results leave in the clock of the latest
abbrev pub result_uses : StFuncTree → List NodeTiming → List Use
result_uses s ts = uses_at (arrivals_of s.ins ts) (func_latency s ts) s.results

abbrev pub slack_at : (item : ℕ) → Use → ℕ
slack_at i u = if u.item == i then u.slack else 0

-- one chain of registers for each item: as long as its longest delay
abbrev pub chain_of : List Use → (item : ℕ) → ℕ
chain_of us i = greatest (slack_at i) us

abbrev pub chain_mems : (layouts : List StTree) → List Use → ℕ
chain_mems layouts us =
    sum_by (λ i. columns_of (item_layout layouts i) * rings (chain_of us i)) (range_with_len 0 (length layouts))

abbrev pub all_uses : StFuncTree → List NodeTiming → List Use
all_uses s ts = flat_map (λ (t : NodeTiming). t.uses) ts ++ result_uses s ts

abbrev pub func_costs_by : StFuncTree → List NodeTiming → OwnCosts
func_costs_by s ts = record {
  latency = func_latency s ts;
  load = sum_by (λ (t : NodeTiming). t.load) ts + slack_load (item_layouts s) (result_uses s ts);
  muls = sum_by (λ (t : NodeTiming). t.muls) ts;
  mems = sum_by (λ (t : NodeTiming). t.mems) ts + chain_mems (item_layouts s) (all_uses s ts);
}

abbrev pub func_costs : (known : List OwnCosts) → StFuncTree → OwnCosts
func_costs known s = func_costs_by s (node_timings known s)

-- the costs of the instances
abbrev pub all_costs : List StFuncTree → List OwnCosts
all_costs instances = grown func_costs [] instances

-- ---- where the loads pass a limit

-- a line, and a load
pub record LineLoad : Type 0 where
  pub line : ℕ
  pub load : ℕ

-- the first line at which the sum of loads, from a sum on, passes the limit, with that sum
abbrev pub first_over : (limit sum : ℕ) → List LineLoad → Option LineLoad
first_over limit sum [] = None
first_over limit sum (l ∷ ls) =
    if nat_lt limit (sum + l.load) then Some (record { line = l.line; load = sum + l.load }) else first_over limit
    (sum + l.load) ls

abbrev pub load_at_line : NodeTiming → LineLoad
load_at_line t = record { line = t.line; load = t.load }

-- the lines of an instance: its nodes, and then its end, where the delays of its results are
abbrev pub line_loads : StFuncTree → List NodeTiming → List LineLoad
line_loads s ts =
    map load_at_line ts ++ record { line = s.end_line; load = slack_load (item_layouts s) (result_uses s ts) } ∷ []

-- of the program function, which is the last instance
abbrev pub too_large : (limit : ℕ) → List StFuncTree → Option LineLoad
too_large limit instances =
    option_and_then (λ s. first_over limit 0
    (line_loads s (node_timings (all_costs (take (length instances - 1) instances)) s)))
    (slice_get instances (length instances - 1))
