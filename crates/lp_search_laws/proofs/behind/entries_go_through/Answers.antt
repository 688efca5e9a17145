use Rattle.lp_proof_laws.proofs.Uniform.Roots.{nothing_kept}
use Rattle.lp_search_laws.proofs.Entries as lemmas
use Rattle.lp_search_laws.proofs.behind.entries_go_through.Goals as goal

pub returns : goal.returns
returns c = λ d V W P c z bs ts k m b cl zl Es es h. lemmas.entries_lead d (nothing_kept d) V W P c z bs ts k (lemmas.are_shut d W _ bs b) m b cl zl Es es (lemmas.entries_at d V ts Es es h)
