use Rattle.ag_texts.proofs.Numbers.{number_read_back, read_is_written}
use Rattle.ag_texts.proofs.reading.numbers_are_read_back.Goals as goal

pub returns-clause-read : goal.returns-clause-read
returns-clause-read c = number_read_back

pub returns-clause-written : goal.returns-clause-written
returns-clause-written c = read_is_written
