use Rattle.formats.proofs.ReadingBack.{written_reads_back}
use Rattle.formats.proofs.WritingBack.{read_writes_back}
use Rattle.patch.proofs.reading.read_patch.Goals as goal

pub returns-in_err-patch_of-clause-reads_back : goal.returns-in_err-patch_of-clause-reads_back
returns-in_err-patch_of-clause-reads_back c = written_reads_back

pub returns-in_err-patch_of-clause-writes_back : goal.returns-in_err-patch_of-clause-writes_back
returns-in_err-patch_of-clause-writes_back c = read_writes_back

pub returns-clause-reads_back : goal.returns-clause-reads_back
returns-clause-reads_back c = written_reads_back

pub returns-clause-writes_back : goal.returns-clause-writes_back
returns-clause-writes_back c = read_writes_back
