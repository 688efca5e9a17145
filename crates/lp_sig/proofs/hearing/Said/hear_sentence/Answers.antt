use Rattle.std.proofs.Common.{◌++◌, ◌∷◌, [], ◌∙◌, ap, sym, subst, append-nil}
use Rattle.std.proofs.lemmas.Result.{on_ok_weaker}
use Rattle.lp_sig.specs.Modules.{declarations, constant_names_in, constant_names_by}
use Rattle.lp_sig.specs.ModuleFaults.{kind_names_in, kind_names_by}
use Rattle.lp_sig.proofs.Refusing.{no_keys}
use Rattle.lp_sig.specs.Sights.{HasKeys, HasNumbers, signature_words, module_words}
use Rattle.lp_sig.proofs.Sights.{no_numbers}
use Rattle.lp_sig.proofs.hearing.Said.hear_sentence.Goals as goal

pub returns-in-Declares-clause-signatures : goal.returns-in-Declares-clause-signatures
returns-in-Declares-clause-signatures c = on_ok_weaker c.hear.result (λ f before h. subst
    (λ l. HasNumbers c.hear.new.self.accum_sigs (before ++ signature_words c.args.source.now (declarations (l ∷ [])))) (sym c.in-Declares.is)
    (f before h)) c.hear.ensures.signatures

pub returns-in-Declares-clause-modules : goal.returns-in-Declares-clause-modules
returns-in-Declares-clause-modules c = on_ok_weaker c.hear.result (λ f before h. subst
    (λ l. HasNumbers c.hear.new.self.accumulates (before ++ module_words c.args.source.now (declarations (l ∷ [])))) (sym c.in-Declares.is)
    (f before h)) c.hear.ensures.modules

pub returns-in-Says-clause-signatures : goal.returns-in-Says-clause-signatures
returns-in-Says-clause-signatures c = λ before h. no_numbers c.args.self.now.accum_sigs before _ (ap (λ l. signature_words c.args.source.now (declarations (l ∷ []))) c.in-Says.is) h

pub returns-in-Says-clause-modules : goal.returns-in-Says-clause-modules
returns-in-Says-clause-modules c = λ before h. no_numbers c.args.self.now.accumulates before _ (ap (λ l. module_words c.args.source.now (declarations (l ∷ []))) c.in-Says.is) h

pub returns-in-Declares-clause-kinds : goal.returns-in-Declares-clause-kinds
returns-in-Declares-clause-kinds c = on_ok_weaker c.hear.result (λ f before h. subst (λ ws. HasKeys c.hear.new.self.kinds (before ++ ws))
    (sym (append-nil (kind_names_by c.args.source.now c.in-Declares.declaration)) ∙ ap (λ l. kind_names_in c.args.source.now (declarations (l ∷ [])))
    (sym c.in-Declares.is)) (f before h)) c.hear.ensures.kinds

pub returns-in-Says-clause-kinds : goal.returns-in-Says-clause-kinds
returns-in-Says-clause-kinds c = λ before h. no_keys c.args.self.now.kinds before _ (ap (λ l. kind_names_in c.args.source.now (declarations (l ∷ []))) c.in-Says.is) h

pub returns-in-Declares-clause-constants : goal.returns-in-Declares-clause-constants
returns-in-Declares-clause-constants c = on_ok_weaker c.hear.result (λ f before h. subst (λ ws. HasKeys c.hear.new.self.constants (before ++ ws))
    (sym (append-nil (constant_names_by c.args.source.now c.in-Declares.declaration)) ∙ ap
    (λ l. constant_names_in c.args.source.now (declarations (l ∷ []))) (sym c.in-Declares.is)) (f before h)) c.hear.ensures.constants

pub returns-in-Says-clause-constants : goal.returns-in-Says-clause-constants
returns-in-Says-clause-constants c = λ before h. no_keys c.args.self.now.constants before _ (ap (λ l. constant_names_in c.args.source.now (declarations (l ∷ []))) c.in-Says.is) h
