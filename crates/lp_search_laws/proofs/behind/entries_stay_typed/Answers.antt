use Rattle.lp_search_laws.proofs.Entries as lemmas
use Rattle.lp_search_laws.proofs.behind.entries_stay_typed.Goals as goal

pub returns : goal.returns
returns c = λ d V W bs ts m b Es es h. lemmas.entries_behind d V W bs ts (lemmas.are_shut d W _ bs b) m b Es es (lemmas.entries_at d V ts Es es h)
