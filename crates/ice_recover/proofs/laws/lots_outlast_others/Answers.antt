use Rattle.ice_recover.proofs.OthersLaws.{rest_kept, either_kept, blocks_kept, reads_kept}
use Rattle.ice_recover.proofs.laws.lots_outlast_others.Goals as goal

pub returns-clause-rest : goal.returns-clause-rest
returns-clause-rest c = λ lot map s t kept sure. rest_kept lot map s t kept sure

pub returns-clause-reads : goal.returns-clause-reads
returns-clause-reads c = λ lot view s t kept sure. reads_kept lot view s t kept sure

pub returns-clause-either : goal.returns-clause-either
returns-clause-either c = λ lot entries map s t kept every. either_kept lot entries map s t kept every

pub returns-clause-blocks : goal.returns-clause-blocks
returns-clause-blocks c = λ lot map s t kept every. blocks_kept lot map s t kept every
