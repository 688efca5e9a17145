use Rattle.std.proofs.Common.{subst}
use Rattle.std.specs.Prelude.{IfSome, string_bytes}
use Rattle.lp_base.specs.Held.{Puts}
use Rattle.lp_base.specs.declared.status.Status.TheVariants as variant
use Rattle.lp_lines.specs.Refusals.{status_of}
use Rattle.lp_files.proofs.Making.{written_made}
use Rattle.lp_lines.proofs.Leaving.{leaves_then, leaves_told}
use Rattle.lp_lines.proofs.Refusing.{never_done, never_write_fault}
use Rattle.lp_lines.proofs.Running.{ran_behind, ran_told}
use Rattle.lp_lines.proofs.Statuses.{done_is, not_otherwise}
use Rattle.lp_files.proofs.store.write_file.Goals as goal

pub put-requires : goal.put-requires
put-requires g c = done_is

pub returns-in-Ok-clause-ran : goal.returns-in-Ok-clause-ran
returns-in-Ok-clause-ran g c = ran_behind c.put.result c.in-Ok.ensures.looked c.put.ensures.read_faults c.put.ensures.misses c.put.ensures.overs c.put.ensures.grows c.put.ensures.of_search

pub returns-in-Ok-clause-leaves : goal.returns-in-Ok-clause-leaves
returns-in-Ok-clause-leaves g c = leaves_then c.in-Ok.ensures.looked (c.put.ensures.leaves _ _ c.in-Ok.ensures.target)

pub tell-requires : goal.tell-requires
tell-requires g c = never_write_fault c.in-Err.refusal c.in-Err.ensures.looked.kind

pub returns-in-Err-clause-ran : goal.returns-in-Err-clause-ran
returns-in-Err-clause-ran g c = ran_told c.in-Err.refusal c.tell.result c.in-Err.ensures.looked c.tell.ensures.said c.tell.ensures.prefix

pub returns-in-Err-clause-leaves : goal.returns-in-Err-clause-leaves
returns-in-Err-clause-leaves g c = leaves_told c.in-Err.refusal c.tell.result c.in-Err.ensures.looked c.tell.ensures.said c.tell.ensures.faults

pub returns-in-Ok-clause-makes : goal.returns-in-Ok-clause-makes
returns-in-Ok-clause-makes g c = record {
  made = λ e.
      written_made _ _ c.args.command c.args.name.now _ c.as_slice.result.now c.in-Ok.ready.bytes.items c.in-Ok.ensures.made c.as_slice.ensures.value c.in-Ok.ensures.target.file_is
      (subst (λ told. IfSome told (λ old. IfSome (g.F.Folder.held c.put.new.folder) (Puts (string_bytes c.in-Ok.ready.target.file) c.as_slice.result.now old))) c.in-Ok.ensures.looked.same
      (c.put.ensures.bytes (λ f. cc) (λ f. cc)));
  refused = λ d w m. absurd (d (c.put.ensures.ends w m));
}

pub returns-in-Err-clause-makes : goal.returns-in-Err-clause-makes
returns-in-Err-clause-makes g c = record {
  made = λ e. absurd (not_otherwise c.tell.result (status_of c.in-Err.refusal) variant.Done (λ f. (c.tell.ensures.said f).0) (λ f. cc)
      (never_done c.in-Err.refusal c.in-Err.ensures.looked.kind) e);
  refused = λ d w m. record {
    refusal = c.in-Err.refusal;
    cause = c.in-Err.ensures.cause;
    status_is = (c.tell.ensures.said w).0;
    appended = (c.tell.ensures.said w).1;
  };
}
