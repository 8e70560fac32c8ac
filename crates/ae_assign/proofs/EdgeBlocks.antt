-- Statements one after the other.
use Rattle.std.proofs.Common.{ℕ, ◌≡◌, ◌+◌, ◌*◌, ◌<◌, ◌≤◌, Bool, List, length, Option, arith, refl, ap, ◌∙◌}
use Rattle.ae_netlist.specs.declared.cell.NetId.{NetId}
use Rattle.ae_netlist.specs.Circuit.{Circuit}
use Rattle.ae_netlist.specs.Runs.{Clock, InEveryRunFrom}
use Rattle.ae_vmodule.specs.ModuleTree.{StmtTree, block_more, NetTree}
use Rattle.ae_judge.specs.Names.{Among, stmt_targets}
use Rattle.ae_judge.specs.Weight.{stmt_weight}
use Rattle.ae_gates.specs.Cells.{AddsGates, GrowsByGates}
use Rattle.ae_runs.specs.Named.{AreNamed, read}
use Rattle.ae_runs.specs.Guards.{guarded}
use Rattle.ae_assign.specs.Edges.{IsSoundStmt, IsReadyStmt, IsGuard, FitNexts, AreFresh, OthersKeep, next_read, Acts, IsActed}
use Rattle.ae_assign.specs.declared.statements.Next.{Next}
use Rattle.ae_judge.proofs.Members.{among_left, among_right}
use Rattle.ae_gates.proofs.Words.{back, grows_refl, grows_trans}
use Rattle.ae_assign.proofs.EdgeLaws.{guard_grows}
use Rattle.ae_assign.proofs.EdgeFits.{fresh_left, fresh_right}

-- of the statements of a block so many are done, and the rest is not
pub record IsActing (from : ℕ) (ns : List NetTree) (ys : List (Option NetId)) (guard : Option NetId) (old new : Circuit) (before after : List Next)
    (whole rest : StmtTree) : Type 0 where
  pub grows : GrowsByGates old new
  pub more : length old.cells ≤ length new.cells
  pub few : length new.cells + 8 * stmt_weight 0 rest ≤ length old.cells + 8 * stmt_weight 0 whole
  pub nexts : FitNexts ns after new.cells
  pub sound : IsSoundStmt ns rest
  pub ready : IsReadyStmt ns ys rest
  pub fresh : AreFresh ns after (stmt_targets rest)
  pub within : (n : List ℕ) → Among n (stmt_targets rest) → Among n (stmt_targets whole)
  pub others : OthersKeep ns before after (stmt_targets whole)
  pub acts : (at : List ℕ → ℕ) (g : List Clock → ℕ → Bool) → AreNamed ns ys at → IsGuard from old.cells guard g
      → InEveryRunFrom from new.cells (λ run. (t : ℕ) → t < length run
      → guarded ns (read at run t) rest (g run t) (next_read ns after at run t) ≡ guarded ns (read at run t) whole (g run t) (next_read ns before at run t))

module _ (from : ℕ) (ns : List NetTree) (ys : List (Option NetId)) (guard : Option NetId) (old : Circuit) (before : List Next) (whole : StmtTree) where
  pub acting_first : IsSoundStmt ns whole → IsReadyStmt ns ys whole → FitNexts ns before old.cells → AreFresh ns before (stmt_targets whole)
      → IsActing from ns ys guard old old before before whole whole
  acting_first sound ready nexts fresh = record {
    grows = grows_refl old;
    more = omega arith;
    few = omega arith;
    nexts = nexts;
    sound = sound;
    ready = ready;
    fresh = fresh;
    within = λ n a. a;
    others = λ n none. refl;
    acts = λ at g named guards all k run is t l. refl;
  }

  pub acting_step : (mid new : Circuit) (after later : List Next) (s rest : StmtTree) → IsActing from ns ys guard old mid before after whole (block_more s rest)
      → AddsGates mid new (8 * stmt_weight 0 s) → FitNexts ns later new.cells
      → OthersKeep ns after later (stmt_targets s) → Acts from ns ys guard mid.cells new.cells after later s
      → IsActing from ns ys guard old new before later whole rest
  acting_step mid new after later s rest h adds nexts others acts =
      let less = h.few in
      let longer = h.more in
      let few = adds.few in
      let more = adds.more in
      record {
        grows = grows_trans h.grows adds.grows;
        more = omega arith;
        few = omega arith;
        nexts = nexts;
        sound = h.sound.1;
        ready = h.ready.1;
        fresh = fresh_right ns after later (stmt_targets s) (stmt_targets rest) h.fresh others;
        within = λ n a. h.within n (among_right n (stmt_targets s) (stmt_targets rest) a);
        others = λ n none. others n (λ a. none (h.within n (among_left n (stmt_targets s) (stmt_targets rest) a))) ∙ h.others n none;
        acts = λ at g named guards all k run is t l.
            ap (guarded ns (read at run t) rest (g run t)) (acts at g named (guard_grows from guard g h.grows guards) all k run is t l)
            ∙ h.acts at g named guards all (back adds.grows k) run is t l;
      }

  -- what the next statement of the block wants
  pub next_fresh : (mid : Circuit) (after : List Next) (s rest : StmtTree) → IsActing from ns ys guard old mid before after whole (block_more s rest)
      → AreFresh ns after (stmt_targets s)
  next_fresh mid after s rest h = fresh_left ns after (stmt_targets s) (stmt_targets rest) h.fresh

  -- all statements are done with what is left
  pub acting_last : (mid new : Circuit) (after later : List Next) (rest : StmtTree) → IsActing from ns ys guard old mid before after whole rest
      → IsActed from ns ys guard mid new after later rest → IsActed from ns ys guard old new before later whole
  acting_last mid new after later rest h last =
      let less = h.few in
      let few = last.adds.few in
      let longer = h.more in
      let more = last.adds.more in
      record {
        adds = record { grows = grows_trans h.grows last.adds.grows; more = omega arith; few = omega arith };
        nexts = last.nexts;
        others = λ n none. last.others n (λ a. none (h.within n a)) ∙ h.others n none;
        acts = λ at g named guards all k run is t l.
            last.acts at g named (guard_grows from guard g h.grows guards) all k run is t l
            ∙ h.acts at g named guards all (back last.adds.grows k) run is t l;
      }
