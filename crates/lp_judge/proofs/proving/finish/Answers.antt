use Rattle.std.proofs.Common.{refl, sym, ap, ◌∙◌}
use Rattle.lp_model.specs.declared.ending.Ending.TheVariants as ending
use Rattle.lp_lines.specs.Lines.{is_of_search}
use Rattle.lp_lines.proofs.Leaving.{leaves_untouched}
use Rattle.lp_lines.proofs.Refusing.{line_grows}
use Rattle.lp_lines.proofs.Statuses.{ending_is, said_of_search, search_not_fault}
use Rattle.lp_judge.proofs.Provings.{counted_stands, deep_no_file, deep_not_done, done_has_file, file_no_fault, file_no_memory, proofs_stand, ready_file, with_status}
use Rattle.lp_judge.proofs.proving.finish.Goals as goal

pub put-requires : goal.put-requires
put-requires g c = ap is_of_search c.status.ensures ∙ ending_is c.in-File.file.ending

pub returns-in-File-clause-leaves : goal.returns-in-File-clause-leaves
returns-in-File-clause-leaves g c = λ name o.
    let r = ready_file name c.args.outcome c.in-File.file c.in-File.is o in
    (r.0, r.1, c.in-File.file.ending, with_status _ _ _ _ _ _ _ _ _ _ _ _ c.put.result c.status.ensures (c.put.ensures.leaves _ _ r.2))

pub say-requires : goal.say-requires
say-requires g c = search_not_fault c.status-in-Deep.result (ap is_of_search c.status-in-Deep.ensures ∙ ending_is ending.Deep)

pub returns-in-Deep-clause-grows : goal.returns-in-Deep-clause-grows
returns-in-Deep-clause-grows g c = line_grows c.say.result c.status-in-Deep.result _ _ _ c.say.ensures.said c.say.ensures.prefix

pub returns-in-Deep-clause-of_search : goal.returns-in-Deep-clause-of_search
returns-in-Deep-clause-of_search g c = said_of_search c.say.result c.status-in-Deep.result (ap is_of_search c.status-in-Deep.ensures ∙ ending_is ending.Deep) (λ n. (c.say.ensures.said n).0)

pub returns-in-Deep-clause-leaves : goal.returns-in-Deep-clause-leaves
returns-in-Deep-clause-leaves g c = λ name o.
    (0, 0, ending.Deep, leaves_untouched c.say.result c.status-in-Deep.result (λ n. (c.say.ensures.said n).0) (λ e. deep_not_done (sym c.status-in-Deep.ensures ∙ e)) c.say.ensures.faults refl refl)

pub returns-in-File-clause-certified : goal.returns-in-File-clause-certified
returns-in-File-clause-certified g c name text = λ o h f.
    let r = ready_file name c.args.outcome c.in-File.file c.in-File.is o in
    proofs_stand _ _ name text c.args.outcome c.in-File.file _ _ c.in-File.is h r.2.file_is c.as_slice.ensures.value
    (c.put.ensures.bytes (file_no_fault c.put.result f) (file_no_memory c.put.result f))

pub returns-in-Deep-clause-certified : goal.returns-in-Deep-clause-certified
returns-in-Deep-clause-certified g c name text = λ o h f. absurd (deep_no_file c.status-in-Deep.result c.say.result c.status-in-Deep.ensures c.say.ensures.said f)

pub returns-in-File-clause-counted : goal.returns-in-File-clause-counted
returns-in-File-clause-counted g c name text = λ h e.
    counted_stands _ _ name text c.args.outcome c.in-File.file _ _ c.put.result c.in-File.is h c.as_slice.ensures.value c.put.ensures.leaves
    (c.put.ensures.bytes (file_no_fault c.put.result (done_has_file e)) (file_no_memory c.put.result (done_has_file e))) e

pub returns-in-Deep-clause-counted : goal.returns-in-Deep-clause-counted
returns-in-Deep-clause-counted g c name text = λ h e. absurd (deep_no_file c.status-in-Deep.result c.say.result c.status-in-Deep.ensures c.say.ensures.said (done_has_file e))
