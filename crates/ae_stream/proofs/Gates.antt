-- The handshake follows from the gates.
use Rattle.std.proofs.Common.{◌≡◌, Bool, true, false, arith, refl, ap, ◌∙◌}
use Rattle.std.specs.Prelude.{◌&&◌, ◌||◌, not, if◌then◌else◌}
use Rattle.ae_netlist.specs.Runs.{Clock}
use Rattle.ae_stream.specs.Streams.{Ends, bit, is_transfer}
use Rattle.ae_stream.specs.Control.{Control}
use Rattle.ae_stream.specs.Gates.{Gates, HasGates, may_go}

handshake : (first valid busy takes current two : Bool) → (first ≡ true → takes ≡ true)
    → (valid && (not two && (takes && (first || current)))) ≡ ((not two && may_go first valid busy takes
    current) && (takes && (if first then valid else current)))
handshake true valid busy false current two b = (let e : false ≡ true = b refl in absurd (grind (arith, e)))
handshake true true busy true current true b = refl
handshake true true busy true current false b = refl
handshake true false busy true current true b = refl
handshake true false true true current false b = refl
handshake true false false true current false b = refl
handshake false true busy true true true b = refl
handshake false true busy true true false b = refl
handshake false true busy true false true b = refl
handshake false true busy true false false b = refl
handshake false true busy false current true b = refl
handshake false true busy false current false b = refl
handshake false false busy true true true b = refl
handshake false false busy true true false b = refl
handshake false false busy true false true b = refl
handshake false false busy true false false b = refl
handshake false false busy false current true b = refl
handshake false false busy false current false b = refl

-- words pass at the source exactly where the circuit steps and a real block wants them
pub asks : (x : Control) (g : Gates) (ends : Ends) (c : Clock) → HasGates x g ends c → bit g.reset c ≡ false
    → is_transfer ends.source c ≡ (bit x.enable c && (bit x.takes c && bit x.here c))
asks x g ends c h low =
    let first : Bool = bit g.first c in
    let valid : Bool = bit ends.source.valid c in
    let takes : Bool = bit x.takes c in
    let current : Bool = bit g.current c in
    let two : Bool = bit x.two c in
    let all = handshake first valid (bit g.busy c) takes current two h.begins in
    let on : bit x.enable c ≡ (not two && may_go first valid (bit g.busy c) takes current) = h.enable ∙
    ap (λ v. v || (not two && may_go first valid (bit g.busy c) takes current)) low in
    rw (h.ready, on, h.here) all
