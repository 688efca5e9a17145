use Rattle.lp_build.proofs.Growing.{empty_texts}
use Rattle.lp_build.proofs.texts.Texts.new.Goals as goal

pub returns : goal.returns
returns c = λ files. record {
  signatures = empty_texts _ _ files _ _ _ _ c.new.ensures.numbers c.new.ensures.names c.new.ensures.sources c.new.ensures.texts;
  modules = empty_texts _ _ files _ _ _ _ c.new-2.ensures.numbers c.new-2.ensures.names c.new-2.ensures.sources c.new-2.ensures.texts;
}
