-- What statements do, by one guarded choice for each assignment.
use Rattle.std.specs.Prelude.{◌≡◌, ◌==◌, Bool, true, not, ◌&&◌, if◌then◌else◌, List}
use Rattle.ae_vmodule.specs.ModuleTree.{StmtTree, set, put, when, either, block_end, block_more, NetTree}
use Rattle.ae_runs.specs.Values.{ModuleClock, own_value, assigned, with_word, with_stored, after_stmt}

-- each assignment is made where its guard is true; an `if` hands a guard on to both its branches, one behind the other
abbrev pub guarded : List NetTree → ModuleClock → StmtTree → Bool → ModuleClock → ModuleClock
guarded ns c (set n value) guard next = if guard then with_word next n (assigned ns c n value) else next
guarded ns c (put n at value) guard next =
    if guard then with_stored next n (own_value ns c at) (assigned ns c n value) else next
guarded ns c (when test taken) guard next = guarded ns c taken (guard && not (own_value ns c test == 0)) next
guarded ns c (either test taken otherwise) guard next =
    guarded ns c otherwise (guard && (own_value ns c test == 0))
    (guarded ns c taken (guard && not (own_value ns c test == 0)) next)
guarded ns c block_end guard next = next
guarded ns c (block_more first rest) guard next = guarded ns c rest guard (guarded ns c first guard next)

-- with a guard that is true this is what the statement does
abbrev pub GuardsDo : Type 0
GuardsDo =
    (ns : List NetTree) (c : ModuleClock) (s : StmtTree) (next : ModuleClock)
    → guarded ns c s true next ≡ after_stmt ns c s next
