-- What a reader holds, apart from how it holds it.
use Rattle.std.specs.Prelude.{◌^◌, take, Some, None, Option}
use Rattle.std.specs.Option.{option_map}
use Rattle.polynomials.specs.Binomials.{dimension}
use Rattle.words.specs.declared.code.Code.{Code}
use Rattle.runs.specs.Traces.{Shape}
use Rattle.runs.specs.States.{State}
use Rattle.reader.specs.declared.state.Setting.{Setting}
use Rattle.reader.specs.declared.state.Reader.{Reader}

-- the sizes of a code
abbrev pub sizes : Code → Shape
sizes code = record { m = code.variables; r = code.order }

-- unset, it holds nothing; set, it holds the sizes, the radius, the weights where it has cells, and the last message where one was handed out
abbrev pub held : Option Setting → State
held None = record { shape = None; radius = 0; weights = None; last = None }
held (Some setting) = record {
  shape = Some (sizes setting.code);
  radius = setting.radius;
  weights = option_map (take (2 ^ setting.code.variables)) setting.weights;
  last = option_map (λ handed. take (dimension setting.code.variables setting.code.order) handed.message) setting.last;
}

-- what a reader holds
abbrev pub view : Reader → State
view reader = held reader.setting
