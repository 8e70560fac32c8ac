-- For which circuits there may be no room between two channels.
use Rattle.std.specs.Prelude.{◌+◌, ◌/◌, ◌<◌, ◌≤◌, ◌⊎◌, length}
use Rattle.ae_netlist.specs.Circuit.{Circuit}
use Rattle.ae_verilog.specs.ReportLines.{ReportTree}
use Rattle.ae_streamed.specs.Count.{mark_cells, stream_cells}

-- the latency, the cells with those of the marks, or all cells and outputs that there may be pass these limits
abbrev pub MayLackRoom : Circuit → ReportTree → Type 0
MayLackRoom n r =
    (1000000 < r.latency)
    ⊎ ((1000000 ≤ length n.cells + mark_cells r.ins r.outs)
    ⊎ (2500000 ≤ stream_cells n r.ins r.outs (r.latency / r.slowdown) + length n.outlets + 2))
