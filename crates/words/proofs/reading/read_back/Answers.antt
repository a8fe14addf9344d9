use Rattle.std.proofs.Common.{◌≡◌, ◌++◌, take, drop, sym, rules}
use Rattle.std.proofs.lemmas.List.{drop_at}
use Rattle.std.proofs.lemmas.Result.{err_from_is_err_and}
use Rattle.polynomials.specs.Binomials.{dimension}
use Rattle.polynomials.specs.Words.{ReadsBack}
use Rattle.polynomials.specs.Coefficients.{coefficients}
use Rattle.polynomials.proofs.Inversion.{inversion}
use Rattle.polynomials.proofs.Reading.{coefficients_message, words_are_low_degree}
use Rattle.words.proofs.Rows.{row_10_degree, word_readable}
use Rattle.words.proofs.Written.{message_in_front}
use Rattle.words.proofs.reading.read_back.Goals as goal

pub returns-in_err-code-clause-degree : goal.returns-in_err-code-clause-degree
returns-in_err-code-clause-degree c =
    let p = err_from_is_err_and c.from_residual.result c.from_residual.ensures.1 in
    rw (p.1, p.2) (row_10_degree _ _ _ _ _ c.in_err-code.ensures.refused)

pub returns-in_err-code-clause-undoes_encode : goal.returns-in_err-code-clause-undoes_encode
returns-in_err-code-clause-undoes_encode c = λ sent e few low long.
    rw (err_from_is_err_and c.from_residual.result c.from_residual.ensures.1).1
    (word_readable _ _ _ _ _ _ e few low long c.in_err-code.ensures.refused)

pub returns-in_err-code-clause-law : goal.returns-in_err-code-clause-law
returns-in_err-code-clause-law c = words_are_low_degree

pub returns-in_err-code-clause-inversion : goal.returns-in_err-code-clause-inversion
returns-in_err-code-clause-inversion c = inversion

pub returns-clause-written : goal.returns-clause-written
returns-clause-written c =
    let table = c.args.table.now in
    let k : c.write_message.result ≡ dimension c.args.m c.args.r = search rules in
    let written : c.write_message.new.message ≡ coefficients c.args.m c.args.r table ++ drop (dimension c.args.m c.args.r) c.args.message.now = search rules in (
      k,
      message_in_front c.args.m c.args.r c.args.message.now _ _ table k written c.in_ok-code.ensures.word.0 c.in_ok-code.ensures.word.1,
      rw (k, written) (drop_at (coefficients c.args.m c.args.r table) _ _ (coefficients_message c.args.m c.args.r table).long),
    )

pub returns-clause-undoes_encode : goal.returns-clause-undoes_encode
returns-clause-undoes_encode c =
    let reads : ReadsBack c.args.m c.args.r c.args.table.now (take c.write_message.result c.write_message.new.message)
    = message_in_front c.args.m c.args.r c.args.message.now _ _ c.args.table.now (search rules) (search rules) c.in_ok-code.ensures.word.0 c.in_ok-code.ensures.word.1 in
    λ sent e few low long. sym (reads.only sent e)

pub returns-clause-law : goal.returns-clause-law
returns-clause-law c = words_are_low_degree

pub returns-clause-inversion : goal.returns-clause-inversion
returns-clause-inversion c = inversion
