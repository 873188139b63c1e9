use Rattle.rm_store.proofs.Contents.{unchanged, added, refolded, shows_same, fits_same}
use Rattle.rm_store.proofs.laws.law_content_of_an_append.Goals as goal

pub returns-clause-unchanged : goal.returns-clause-unchanged
returns-clause-unchanged c = unchanged

pub returns-clause-added : goal.returns-clause-added
returns-clause-added c = added

pub returns-clause-refolded : goal.returns-clause-refolded
returns-clause-refolded c = refolded

pub returns-clause-shows : goal.returns-clause-shows
returns-clause-shows c = shows_same

pub returns-clause-fits : goal.returns-clause-fits
returns-clause-fits c = fits_same
