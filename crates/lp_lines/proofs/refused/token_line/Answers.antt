use Rattle.std.proofs.Common.{refl, subst, sym}
use Rattle.std.specs.Prelude.{IfOk, codes}
use Rattle.lp_lines.specs.Placed.{IsTokenLine}
use Rattle.lp_lines.proofs.Placing.{bad_byte, unclosed_text, unclosed_comment, great_number, line_of_place}
use Rattle.lp_lines.proofs.refused.token_line.Goals as goal

pub returns-in-BadByte-clause-placed : goal.returns-in-BadByte-clause-placed
returns-in-BadByte-clause-placed g text = λ h. line_of_place g.source_line.result g.args.file.now text g.in-BadByte.place (codes "bad byte") (bad_byte text g.in-BadByte.place (rw g.in-BadByte.is at h)) refl g.source_line.ensures

pub returns-in-OpenText-clause-placed : goal.returns-in-OpenText-clause-placed
returns-in-OpenText-clause-placed g text = λ h. line_of_place g.source_line-in-OpenText.result g.args.file.now text g.in-OpenText.place (codes "unclosed string") (unclosed_text text g.in-OpenText.place (rw g.in-OpenText.is at h)) refl g.source_line-in-OpenText.ensures

pub returns-in-OpenComment-clause-placed : goal.returns-in-OpenComment-clause-placed
returns-in-OpenComment-clause-placed g text = λ h. line_of_place g.source_line-in-OpenComment.result g.args.file.now text g.in-OpenComment.place (codes "unclosed comment") (unclosed_comment text g.in-OpenComment.place (rw g.in-OpenComment.is at h)) refl g.source_line-in-OpenComment.ensures

pub returns-in-BigNumber-clause-placed : goal.returns-in-BigNumber-clause-placed
returns-in-BigNumber-clause-placed g text = λ h. line_of_place g.source_line-in-BigNumber.result g.args.file.now text g.in-BigNumber.place (codes "number past 64 bits") (great_number text g.in-BigNumber.place (rw g.in-BigNumber.is at h)) refl g.source_line-in-BigNumber.ensures

pub returns-in-BadByte-clause-says : goal.returns-in-BadByte-clause-says
returns-in-BadByte-clause-says g = subst (λ f. IfOk g.source_line.result (λ line. IsTokenLine g.args.file.now f line.items)) (sym g.in-BadByte.is) g.source_line.ensures

pub returns-in-OpenText-clause-says : goal.returns-in-OpenText-clause-says
returns-in-OpenText-clause-says g = subst (λ f. IfOk g.source_line-in-OpenText.result (λ line. IsTokenLine g.args.file.now f line.items)) (sym g.in-OpenText.is) g.source_line-in-OpenText.ensures

pub returns-in-OpenComment-clause-says : goal.returns-in-OpenComment-clause-says
returns-in-OpenComment-clause-says g = subst (λ f. IfOk g.source_line-in-OpenComment.result (λ line. IsTokenLine g.args.file.now f line.items)) (sym g.in-OpenComment.is) g.source_line-in-OpenComment.ensures

pub returns-in-BigNumber-clause-says : goal.returns-in-BigNumber-clause-says
returns-in-BigNumber-clause-says g = subst (λ f. IfOk g.source_line-in-BigNumber.result (λ line. IsTokenLine g.args.file.now f line.items)) (sym g.in-BigNumber.is) g.source_line-in-BigNumber.ensures
