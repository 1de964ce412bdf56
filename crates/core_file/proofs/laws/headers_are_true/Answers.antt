use Rattle.core_file.proofs.FileParts.{headers_are_true}
use Rattle.core_file.proofs.laws.headers_are_true.Goals as goal

pub returns : goal.returns
returns c = headers_are_true
