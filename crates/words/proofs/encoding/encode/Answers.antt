use Rattle.std.proofs.Common.{◌≡◌, take, sym, subst, rules}
use Rattle.std.proofs.lemmas.Result.{err_from_is_err_and}
use Rattle.polynomials.specs.Words.{word_of}
use Rattle.polynomials.specs.Coefficients.{Degree≤}
use Rattle.polynomials.proofs.Reading.{word_low_degree, words_differ}
use Rattle.words.proofs.Rows.{message_encodable}
use Rattle.words.proofs.Written.{word_in_front}
use Rattle.words.proofs.encoding.encode.Goals as goal

pub returns-in_err-code-clause-undoes_read_back : goal.returns-in_err-code-clause-undoes_read_back
returns-in_err-code-clause-undoes_read_back c = λ table b few low long.
    rw (err_from_is_err_and c.from_residual.result c.from_residual.ensures.1).1
    (message_encodable _ _ _ _ _ b.encodes.valid few low long c.in_err-code.ensures.refused)

pub returns-in_err-code-clause-law : goal.returns-in_err-code-clause-law
returns-in_err-code-clause-law c = words_differ

pub returns-clause-degree : goal.returns-clause-degree
returns-clause-degree c =
    let word : take c.write_word.result c.write_word.new.word ≡ word_of c.args.m c.args.r c.args.message.now
    = word_in_front c.args.m c.args.r c.args.word.now _ _ c.args.message.now (search rules) (search rules) in
    subst (Degree≤ c.args.m c.args.r) (sym word) (word_low_degree c.args.m c.args.r c.args.message.now)

pub returns-clause-reads_back : goal.returns-clause-reads_back
returns-clause-reads_back c =
    let word : take c.write_word.result c.write_word.new.word ≡ word_of c.args.m c.args.r c.args.message.now
    = word_in_front c.args.m c.args.r c.args.word.now _ _ c.args.message.now (search rules) (search rules) in
    words_differ _ _ _ _ (record { valid = c.in_ok-code.ensures.message; word = sym word })

pub returns-clause-law : goal.returns-clause-law
returns-clause-law c = words_differ
