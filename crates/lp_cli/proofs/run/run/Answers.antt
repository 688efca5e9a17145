use Rattle.std.proofs.Common.{◌∙◌, sym, subst, inl, inr, refl, map, string_bytes, ap, Err}
use Rattle.lp_base.specs.Written.{Appends, AppendsPrefix}
use Rattle.lp_base.specs.declared.status.Status.TheVariants as variant
use Rattle.lp_model.specs.declared.ending.Ending.TheVariants as ending
use Rattle.lp_lines.proofs.Leaving.{leaves_untouched}
use Rattle.lp_lines.proofs.Refusing.{line_grows}
use Rattle.lp_lines.proofs.Statuses.{is_fault, still, long_still, not_otherwise}
use Rattle.lp_lines.specs.Lines.{memory_line}
use Rattle.lp_words.specs.Asked.{asked_of}
use Rattle.lp_words.specs.Commands.{usage_line}
use Rattle.lp_cli.specs.Usage.{no_memory, with_line}
use Rattle.lp_cli.proofs.Asking.{placed_asked, keeps_asked, leaves_asked, certifies_asked, fulfils_asked, fulfils_memory, command_asked, watched_asked}
use Rattle.lp_cli.proofs.Watching.{heard_asked, wanting_heard}
use Rattle.lp_cli.proofs.run.run.Goals as goal

-- words that are no command, and want of memory for them
pub returns-in-Err-Usage-clause-told : goal.returns-in-Err-Usage-clause-told
returns-in-Err-Usage-clause-told g c =
    λ none no.
    let said = c.say.ensures.said no in
    record {
      text = usage_line;
      is = with_line said.0 refl;
      appended = subst (Appends (g.K.Sink.written c.args.out.now) (g.K.Sink.written c.say.new.out)) (c.as_bytes.ensures.value ∙ c.usage.ensures) said.1;
    }

pub returns-in-Err-Usage-clause-prefix : goal.returns-in-Err-Usage-clause-prefix
returns-in-Err-Usage-clause-prefix g c =
    λ none is. record {
      status = variant.Usage;
      text = usage_line;
      is = with_line refl refl;
      appended = subst (AppendsPrefix (g.K.Sink.written c.args.out.now) (g.K.Sink.written c.say.new.out)) (c.as_bytes.ensures.value ∙ c.usage.ensures) (c.say.ensures.prefix is);
    }

pub returns-in-Err-Usage-clause-grows : goal.returns-in-Err-Usage-clause-grows
returns-in-Err-Usage-clause-grows g c = line_grows c.say.result variant.Usage _ (g.K.Sink.written c.args.out.now) (g.K.Sink.written c.say.new.out) c.say.ensures.said c.say.ensures.prefix

pub returns-in-Err-Usage-clause-read_fault : goal.returns-in-Err-Usage-clause-read_fault
returns-in-Err-Usage-clause-read_fault g c =
    λ e. absurd (not_otherwise c.say.result variant.Usage variant.ReadFault (λ n. (c.say.ensures.said n).0) (λ f. cc) (λ f. cc) e)

pub returns-in-Err-Usage-clause-usage : goal.returns-in-Err-Usage-clause-usage
returns-in-Err-Usage-clause-usage g c =
    λ e command. command (c.in-Err-Usage.ensures.usage (ap Err c.in-Err-Usage.field-0-is))

pub returns-in-Err-Usage-clause-no_command : goal.returns-in-Err-Usage-clause-no_command
returns-in-Err-Usage-clause-no_command g c =
    λ no. elim (is_fault c.say.result) [ inl f ↦ inr (inr f) | inr n ↦ inl (c.say.ensures.said n).0 ]

pub returns-in-Err-Usage-clause-read_faults : goal.returns-in-Err-Usage-clause-read_faults
returns-in-Err-Usage-clause-read_faults g c =
    still c.say.result variant.ReadFault _ (not_otherwise c.say.result variant.Usage variant.ReadFault (λ n. (c.say.ensures.said n).0) (λ f. cc) (λ f. cc))

pub returns-in-Err-Usage-clause-misses : goal.returns-in-Err-Usage-clause-misses
returns-in-Err-Usage-clause-misses g c =
    still c.say.result variant.Missing _ (not_otherwise c.say.result variant.Usage variant.Missing (λ n. (c.say.ensures.said n).0) (λ f. cc) (λ f. cc))

pub returns-in-Err-Usage-clause-overs : goal.returns-in-Err-Usage-clause-overs
returns-in-Err-Usage-clause-overs g c =
    long_still c.say.result _ _ _ (not_otherwise c.say.result variant.Usage variant.Limit (λ n. (c.say.ensures.said n).0) (λ f. cc) (λ f. cc))

pub returns-in-Err-Memory-clause-told : goal.returns-in-Err-Memory-clause-told
returns-in-Err-Memory-clause-told g c =
    λ none no.
    let said = c.say-in-Err-Memory.ensures.said no in
    record {
      text = memory_line;
      is = no_memory said.0 refl;
      appended = subst (Appends (g.K.Sink.written c.args.out.now) (g.K.Sink.written c.say-in-Err-Memory.new.out)) (c.as_bytes-in-Err-Memory.ensures.value ∙ c.memory.ensures) said.1;
    }

pub returns-in-Err-Memory-clause-prefix : goal.returns-in-Err-Memory-clause-prefix
returns-in-Err-Memory-clause-prefix g c =
    λ none is. record {
      status = variant.Memory;
      text = memory_line;
      is = no_memory refl refl;
      appended = subst (AppendsPrefix (g.K.Sink.written c.args.out.now) (g.K.Sink.written c.say-in-Err-Memory.new.out))
          (c.as_bytes-in-Err-Memory.ensures.value ∙ c.memory.ensures) (c.say-in-Err-Memory.ensures.prefix is);
    }

pub returns-in-Err-Memory-clause-grows : goal.returns-in-Err-Memory-clause-grows
returns-in-Err-Memory-clause-grows g c = line_grows c.say-in-Err-Memory.result variant.Memory _ (g.K.Sink.written c.args.out.now)
    (g.K.Sink.written c.say-in-Err-Memory.new.out) c.say-in-Err-Memory.ensures.said c.say-in-Err-Memory.ensures.prefix

pub returns-in-Err-Memory-clause-read_fault : goal.returns-in-Err-Memory-clause-read_fault
returns-in-Err-Memory-clause-read_fault g c =
    λ e. absurd (not_otherwise c.say-in-Err-Memory.result variant.Memory variant.ReadFault (λ n. (c.say-in-Err-Memory.ensures.said n).0) (λ f. cc) (λ f. cc) e)

pub returns-in-Err-Memory-clause-usage : goal.returns-in-Err-Memory-clause-usage
returns-in-Err-Memory-clause-usage g c =
    λ e command. not_otherwise c.say-in-Err-Memory.result variant.Memory variant.Usage (λ n. (c.say-in-Err-Memory.ensures.said n).0) (λ f. cc) (λ f. cc) e

pub returns-in-Err-Memory-clause-no_command : goal.returns-in-Err-Memory-clause-no_command
returns-in-Err-Memory-clause-no_command g c =
    λ no. elim (is_fault c.say-in-Err-Memory.result) [ inl f ↦ inr (inr f) | inr n ↦ inr (inl (c.say-in-Err-Memory.ensures.said n).0) ]

pub returns-in-Err-Memory-clause-read_faults : goal.returns-in-Err-Memory-clause-read_faults
returns-in-Err-Memory-clause-read_faults g c =
    still c.say-in-Err-Memory.result variant.ReadFault _ (not_otherwise c.say-in-Err-Memory.result variant.Memory variant.ReadFault (λ n. (c.say-in-Err-Memory.ensures.said n).0) (λ f. cc) (λ f. cc))

pub returns-in-Err-Memory-clause-misses : goal.returns-in-Err-Memory-clause-misses
returns-in-Err-Memory-clause-misses g c =
    still c.say-in-Err-Memory.result variant.Missing _ (not_otherwise c.say-in-Err-Memory.result variant.Memory variant.Missing (λ n. (c.say-in-Err-Memory.ensures.said n).0) (λ f. cc) (λ f. cc))

pub returns-in-Err-Memory-clause-overs : goal.returns-in-Err-Memory-clause-overs
returns-in-Err-Memory-clause-overs g c =
    long_still c.say-in-Err-Memory.result _ _ _ (not_otherwise c.say-in-Err-Memory.result variant.Memory variant.Limit (λ n. (c.say-in-Err-Memory.ensures.said n).0) (λ f. cc) (λ f. cc))

pub returns-in-Err-Usage-clause-silent : goal.returns-in-Err-Usage-clause-silent
returns-in-Err-Usage-clause-silent g c =
    inr refl

pub returns-in-Err-Memory-clause-silent : goal.returns-in-Err-Memory-clause-silent
returns-in-Err-Memory-clause-silent g c =
    inr refl

pub returns-in-Err-Usage-clause-placed : goal.returns-in-Err-Usage-clause-placed
returns-in-Err-Usage-clause-placed g c =
    λ e query is. absurd (not_otherwise c.say.result variant.Usage variant.Source (λ n. (c.say.ensures.said n).0) (λ f. cc) (λ f. cc) e)

pub returns-in-Err-Memory-clause-placed : goal.returns-in-Err-Memory-clause-placed
returns-in-Err-Memory-clause-placed g c =
    λ e query is. absurd (not_otherwise c.say-in-Err-Memory.result variant.Memory variant.Source (λ n. (c.say-in-Err-Memory.ensures.said n).0) (λ f. cc) (λ f. cc) e)

pub returns-in-Err-Usage-clause-leaves : goal.returns-in-Err-Usage-clause-leaves
returns-in-Err-Usage-clause-leaves g c =
    λ command name is. leaves_untouched c.say.result variant.Usage (λ n. (c.say.ensures.said n).0) (λ e. cc) c.say.ensures.faults refl refl

pub returns-in-Err-Memory-clause-leaves : goal.returns-in-Err-Memory-clause-leaves
returns-in-Err-Memory-clause-leaves g c =
    λ command name is. leaves_untouched c.say-in-Err-Memory.result variant.Memory (λ n. (c.say-in-Err-Memory.ensures.said n).0) (λ e. cc) c.say-in-Err-Memory.ensures.faults refl refl

pub returns-in-Err-Usage-clause-write_faults : goal.returns-in-Err-Usage-clause-write_faults
returns-in-Err-Usage-clause-write_faults g c = λ none. c.say.ensures.faults

pub returns-in-Err-Usage-clause-no_file_written : goal.returns-in-Err-Usage-clause-no_file_written
returns-in-Err-Usage-clause-no_file_written g c = λ none. refl

pub returns-in-Err-Usage-clause-held : goal.returns-in-Err-Usage-clause-held
returns-in-Err-Usage-clause-held g c = λ none. refl

pub returns-in-Err-Memory-clause-write_faults : goal.returns-in-Err-Memory-clause-write_faults
returns-in-Err-Memory-clause-write_faults g c = λ none. c.say-in-Err-Memory.ensures.faults

pub returns-in-Err-Memory-clause-no_file_written : goal.returns-in-Err-Memory-clause-no_file_written
returns-in-Err-Memory-clause-no_file_written g c = λ none. refl

pub returns-in-Err-Memory-clause-held : goal.returns-in-Err-Memory-clause-held
returns-in-Err-Memory-clause-held g c = λ none. refl

-- what the words ask for
pub returns-in-Ok-clause-told : goal.returns-in-Ok-clause-told
returns-in-Ok-clause-told g c = λ none. absurd (none (command_asked (map string_bytes c.args.words.now) (asked_of c.in-Ok.asked) c.in-Ok.ensures.ok))

pub returns-in-Ok-clause-prefix : goal.returns-in-Ok-clause-prefix
returns-in-Ok-clause-prefix g c = λ none. absurd (none (command_asked (map string_bytes c.args.words.now) (asked_of c.in-Ok.asked) c.in-Ok.ensures.ok))

pub returns-in-Ok-clause-grows : goal.returns-in-Ok-clause-grows
returns-in-Ok-clause-grows g c = c.perform.ensures.does.ran.grows

pub returns-in-Ok-clause-read_fault : goal.returns-in-Ok-clause-read_fault
returns-in-Ok-clause-read_fault g c = c.perform.ensures.does.ran.fault

pub returns-in-Ok-clause-placed : goal.returns-in-Ok-clause-placed
returns-in-Ok-clause-placed g c = placed_asked (map string_bytes c.args.words.now) (asked_of c.in-Ok.asked) c.in-Ok.ensures.ok c.perform.ensures.does

pub returns-in-Ok-clause-usage : goal.returns-in-Ok-clause-usage
returns-in-Ok-clause-usage g c = λ e command. c.perform.ensures.does.ran.command e

pub returns-in-Ok-clause-no_command : goal.returns-in-Ok-clause-no_command
returns-in-Ok-clause-no_command g c = λ no. absurd (no (command_asked (map string_bytes c.args.words.now) (asked_of c.in-Ok.asked) c.in-Ok.ensures.ok))

pub returns-in-Ok-clause-silent : goal.returns-in-Ok-clause-silent
returns-in-Ok-clause-silent g c = watched_asked (map string_bytes c.args.words.now) (asked_of c.in-Ok.asked) c.in-Ok.ensures.ok c.perform.ensures.silent

pub returns-in-Ok-clause-write_faults : goal.returns-in-Ok-clause-write_faults
returns-in-Ok-clause-write_faults g c = λ none. (keeps_asked (map string_bytes c.args.words.now) (asked_of c.in-Ok.asked) c.in-Ok.ensures.ok c.perform.ensures.does none).output

pub returns-in-Ok-clause-read_faults : goal.returns-in-Ok-clause-read_faults
returns-in-Ok-clause-read_faults g c = c.perform.ensures.does.ran.read

pub returns-in-Ok-clause-misses : goal.returns-in-Ok-clause-misses
returns-in-Ok-clause-misses g c = c.perform.ensures.does.ran.missing

pub returns-in-Ok-clause-overs : goal.returns-in-Ok-clause-overs
returns-in-Ok-clause-overs g c = c.perform.ensures.does.ran.long

pub returns-in-Ok-clause-no_file_written : goal.returns-in-Ok-clause-no_file_written
returns-in-Ok-clause-no_file_written g c = λ none. (keeps_asked (map string_bytes c.args.words.now) (asked_of c.in-Ok.asked) c.in-Ok.ensures.ok c.perform.ensures.does none).unwritten

pub returns-in-Ok-clause-held : goal.returns-in-Ok-clause-held
returns-in-Ok-clause-held g c = λ none. (keeps_asked (map string_bytes c.args.words.now) (asked_of c.in-Ok.asked) c.in-Ok.ensures.ok c.perform.ensures.does none).same

pub returns-in-Ok-clause-leaves : goal.returns-in-Ok-clause-leaves
returns-in-Ok-clause-leaves g c = leaves_asked (map string_bytes c.args.words.now) (asked_of c.in-Ok.asked) c.in-Ok.ensures.ok c.perform.ensures.does

pub returns-in-Ok-clause-certifies : goal.returns-in-Ok-clause-certifies
returns-in-Ok-clause-certifies g c = certifies_asked (map string_bytes c.args.words.now) (asked_of c.in-Ok.asked) c.in-Ok.ensures.ok c.perform.ensures.does

pub returns-in-Err-Usage-clause-certifies : goal.returns-in-Err-Usage-clause-certifies
returns-in-Err-Usage-clause-certifies g c =
    λ name query options is. (0, 0, ending.NoMore, leaves_untouched c.say.result variant.Usage (λ n. (c.say.ensures.said n).0) (λ e. cc) c.say.ensures.faults refl refl)

pub returns-in-Err-Memory-clause-certifies : goal.returns-in-Err-Memory-clause-certifies
returns-in-Err-Memory-clause-certifies g c =
    λ name query options is. (
      0,
      0,
      ending.NoMore,
      leaves_untouched c.say-in-Err-Memory.result variant.Memory
          (λ n. (c.say-in-Err-Memory.ensures.said n).0) (λ e. cc) c.say-in-Err-Memory.ensures.faults refl refl,
    )

pub returns-in-Ok-clause-fulfils : goal.returns-in-Ok-clause-fulfils
returns-in-Ok-clause-fulfils g c = fulfils_asked (map string_bytes c.args.words.now) (asked_of c.in-Ok.asked) c.in-Ok.ensures.ok c.perform.ensures.does

pub returns-in-Err-Usage-clause-fulfils : goal.returns-in-Err-Usage-clause-fulfils
returns-in-Err-Usage-clause-fulfils g c = λ x is. absurd (let none = sym (c.in-Err-Usage.ensures.usage (ap Err c.in-Err-Usage.field-0-is)) ∙ is in cc)

pub returns-in-Err-Memory-clause-fulfils : goal.returns-in-Err-Memory-clause-fulfils
returns-in-Err-Memory-clause-fulfils g c =
    let line = c.as_bytes-in-Err-Memory.ensures.value ∙ c.memory.ensures in
    λ x is. fulfils_memory _ _ _ (g.K.Sink.written c.args.out.now) (g.K.Sink.written c.say-in-Err-Memory.new.out) c.say-in-Err-Memory.result
    (λ n. let said = c.say-in-Err-Memory.ensures.said n in (said.0, subst (Appends (g.K.Sink.written c.args.out.now) (g.K.Sink.written c.say-in-Err-Memory.new.out)) line said.1))
    (λ e. subst (AppendsPrefix (g.K.Sink.written c.args.out.now) (g.K.Sink.written c.say-in-Err-Memory.new.out)) line (c.say-in-Err-Memory.ensures.prefix e)) x

pub returns-in-Ok-clause-hears : goal.returns-in-Ok-clause-hears
returns-in-Ok-clause-hears g c = heard_asked _ c.perform.result _ _ (map string_bytes c.args.words.now) (asked_of c.in-Ok.asked) c.in-Ok.ensures.ok c.perform.ensures.hears

pub returns-in-Err-Usage-clause-hears : goal.returns-in-Err-Usage-clause-hears
returns-in-Err-Usage-clause-hears g c = λ x is. absurd (let none = sym (c.in-Err-Usage.ensures.usage (ap Err c.in-Err-Usage.field-0-is)) ∙ is in cc)

pub returns-in-Err-Memory-clause-hears : goal.returns-in-Err-Memory-clause-hears
returns-in-Err-Memory-clause-hears g c = λ x is. wanting_heard _ c.say-in-Err-Memory.result _ _ refl (λ n. (c.say-in-Err-Memory.ensures.said n).0) x
