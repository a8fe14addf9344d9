use Rattle.std.proofs.Common.{◌≡◌, ◌^◌, map, take, Some, None, Ok, sym, ap, ◌∙◌, subst}
use Rattle.cells.specs.Readings.{Weighed}
use Rattle.runs.specs.Rows.{load_row}
use Rattle.runs.specs.States.{with_weights}
use Rattle.runs.proofs.Histories.{load_history}
use Rattle.reader.specs.Views.{sizes, held, view}
use Rattle.reader.proofs.Loading.{right_count}
use Rattle.reader.proofs.state.Reader.load.Goals as goal

pub returns-clause-history : goal.returns-clause-history
returns-clause-history g c =
    let readings = map g.C.Cell.reading c.args.cells.now in
    let reader = c.args.self.now in
    let set = c.in_ok-setting.ensures.setting in
    let code = c.in_ok-setting.setting.code in
    let ok = c.in_ok-weigh.ensures in
    let first : None ≡ load_row (view reader).shape readings
    = ok.refused
    ∙ right_count g.C.Cell.reading c.args.cells.now (sizes code) c.points.result c.points.ensures.value _ c.if-cells-points.false c.points.ensures.bound
    ∙ sym (ap (λ o. load_row (held o).shape readings) set) in
    let all : c.in_ok-weigh.field-0 ≡ 2 ^ code.variables = ok.written.0 ∙ c.if-cells-points.false ∙ c.points.ensures.value in
    let weights = take (2 ^ code.variables) c.weigh.new.weights in
    let weighed : Weighed readings weights = subst (λ n. Weighed readings (take n c.weigh.new.weights)) all ok.written.1 in
    let kept : held (Some (record { code = c.rewound.result.code; radius = c.rewound.result.radius; weights = Some c.weigh.new.weights; last = c.rewound.result.last })) ≡ with_weights weights (view reader)
    = rw (set, c.rewound.ensures) in
    λ h l. load_history {X = Unit {0}} h _ _ (Ok tt) l readings first (weights, weighed, kept)
