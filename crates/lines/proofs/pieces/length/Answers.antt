use Rattle.std.proofs.Common.{◌≡◌, ◌<◌, ◌^◌, length, sym, ◌∙◌, rules}
use Rattle.std.specs.List.{sum_by}
use Rattle.std.proofs.lemmas.List.Concat.{length-flat_map}
use Rattle.lines.specs.Pieces.{bytes_of}
use Rattle.lines.proofs.pieces.length.Goals as goal

pub sum-requires-clause-fits : goal.sum-requires-clause-fits
sum-requires-clause-fits c =
    let fits : sum_by (λ p. length (bytes_of p)) c.args.pieces.now < 2 ^ 64 = rw (← length-flat_map bytes_of c.args.pieces.now) c.requires in
    search rules

pub returns : goal.returns
returns c =
    let counted : c.sum.result ≡ sum_by (λ p. length (bytes_of p)) c.args.pieces.now = search rules in
    counted ∙ sym (length-flat_map bytes_of c.args.pieces.now)
