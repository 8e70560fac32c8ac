-- What the parser knows, apart from where its vectors lie.
use Rattle.std.specs.Prelude.{string_bytes, option_map, Some}
use Rattle.ae_fields.specs.Grammar.{Head, Known, Part, State}
use Rattle.ae_fields.specs.View.{params_in, nodes_in, funcs_in}
use Rattle.ae_parse.specs.declared.fn_lines.Params.{Params}
use Rattle.ae_parse.specs.declared.parser.Known.{Known as KnownCode}
use Rattle.ae_parse.specs.declared.parser.Part.{Part as PartCode}
use Rattle.ae_parse.specs.declared.parser.Parser.{Parser}

abbrev pub head_of : Params → Head
head_of h = record { params = params_in h.params; items = h.items }

abbrev pub known_of : KnownCode → Known
known_of k = record { version = k.version; closed = k.closed; funcs = funcs_in k.funcs; names = k.names }

abbrev pub part_of : PartCode → Part
part_of p =
    record {
      name = string_bytes p.name;
      params = params_in p.params;
      nodes = nodes_in p.nodes;
      items = p.items;
      line = p.line;
    }

abbrev pub state_of : Parser → State
state_of s = record { known = known_of s.known; part = option_map part_of s.part }

-- what is known inside a function
abbrev pub opened : Known → Part → State
opened k p = record { known = k; part = Some p }
