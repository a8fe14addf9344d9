use Rattle.cases.proofs.Worked.{table_holds}
use Rattle.cases.proofs.worked_cases.Goals as goal

pub returns-clause-hold : goal.returns-clause-hold
returns-clause-hold c = table_holds
