-- The text of a movement program tells its least latency, and shows it.
use Rattle.std.proofs.Common.{◌≡◌, ℕ, ◌-◌, ◌<◌, List, ◌++◌, length, Option, None, Some, slice_get, inl, inr, refl, sym, ap, ◌∙◌}
use Rattle.std.specs.Prelude.{◌↔◌, IfSome}
use Rattle.std.proofs.lemmas.List.{length-map}
use Rattle.std.proofs.lemmas.Option.{same_Some}
use Rattle.ae_seq.specs.ProgramTree.{FuncTree, ProgramTree}
use Rattle.ae_sttype.specs.StTree.{StTree}
use Rattle.ae_eval.specs.Stack.{IsTyped}
use Rattle.ae_rewrite.specs.Interface.{HaveLayouts, main_of}
use Rattle.ae_rewrite.specs.Scheduled.{IsSchedule}
use Rattle.ae_rewrite.specs.Sound.{IsSound, item_layout, item_layouts}
use Rattle.ae_rewrite.specs.StProgramTree.{StFuncTree}
use Rattle.ae_delay.specs.declared.own.OwnCosts.{OwnCosts}
use Rattle.ae_lower.proofs.Programs.{layouts}
use Rattle.ae_trace.specs.Certificates.{IsCertificate}
use Rattle.ae_trace.specs.Traces.{least}
use Rattle.ae_results.specs.declared.certificate.Certificate.{Certificate}
use Rattle.ae_results.specs.Certified.{certificate_tree}
use Rattle.ae_fuse.specs.Fused.{FusedView, IsFusedOf, outs_of}
use Rattle.ae_fuse.specs.Laws.{LatencyIsLeast}
use Rattle.ae_least.specs.LeastTexts.{latency_line, shown_lines, IsLeastText, HasCertificateLine}
use Rattle.ae_least.proofs.Lower.{none-is-faster}

-- the line of the certificate stands where the least latency is above 0
shown-by : (p : ProgramTree) (ins outs : List StTree) (latency : ℕ) (o : Option Certificate) → latency ≡ least p ins outs → o ≡ None ↔ latency ≡ 0
    → IfSome o (λ c. IsCertificate p ins outs (certificate_tree c))
    → HasCertificateLine p ins outs (shown_lines (length outs) o)
shown-by p ins outs latency None same none is = inl (sym same ∙ none.0 refl, refl)
shown-by p ins outs latency (Some c) same none is = inr (certificate_tree c, is, refl)

-- the instance of the program function has as many results
results-many : (p : ProgramTree) (slowdown : ℕ) (instances : List StFuncTree) (f : FuncTree) (s : StFuncTree) → IsSchedule p slowdown instances
    → slice_get p.funcs (main_of p) ≡ Some f
    → slice_get instances (length instances - 1) ≡ Some s → length f.results ≡ length s.results
results-many p slowdown instances f s h here last =
    let right = h.right (length instances - 1) s last in
    let same : h.last.instance ≡ s = same_Some h.last.instance s (sym h.last.here ∙ last) in
    let func : s.func ≡ length p.funcs - 1 = ap (λ (x : StFuncTree). x.func) (sym same) ∙ h.last.is_func in
    let known : slice_get p.funcs (length p.funcs - 1) ≡ Some right.of = sym (ap (slice_get p.funcs) func) ∙ right.known in
    let is : f ≡ right.of = same_Some f right.of (sym here ∙ known) in
    ap (λ (x : FuncTree). length x.results) is ∙ ap length (sym right.results)

pub least-text : LatencyIsLeast → (p : ProgramTree) (slowdown : ℕ) (instances : List StFuncTree) (f : FusedView) (main : FuncTree) (outs : ℕ) (text : List ℕ)
    → IsTyped p → 0 < slowdown → IsSchedule p slowdown instances
    → IsSound instances → IsFusedOf p instances f → slice_get p.funcs (main_of p) ≡ Some main → outs ≡ length main.results → text ≡ latency_line f.latency
    ++ shown_lines outs f.certificate
    → IsLeastText p slowdown text
least-text law p slowdown instances f main outs text typed some h sound is here many e =
    let own : StFuncTree = is.instance in
    let laid : HaveLayouts p slowdown own.ins (outs_of own) = layouts p slowdown instances own typed h sound is.last in
    let latency : f.latency ≡ least p own.ins (outs_of own) = ap (λ (o : OwnCosts). o.latency) is.costs ∙
    law p slowdown instances is.func own is.movement typed h is.there is.last in
    let count : outs ≡ length (outs_of own) = many ∙ results-many p slowdown instances main own h here is.last ∙
    sym (length-map own.results (item_layout (item_layouts own))) in
    record {
      moves = is.movement;
      ins = own.ins;
      outs = outs_of own;
      layouts = laid;
      shown = shown_lines (length (outs_of own)) f.certificate;
      is_shown = shown-by p own.ins (outs_of own) f.latency f.certificate latency is.none is.certificate;
      is = e ∙ (λ i. latency_line (latency i) ++ shown_lines (count i) f.certificate);
      none_faster = λ m other formed correct. none-is-faster p slowdown other own.ins (outs_of own) m is.movement typed.accepted some laid formed correct;
    }
