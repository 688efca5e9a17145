use Rattle.std.proofs.Common.{◌∙◌, ap}
use Rattle.std.specs.Prelude.{if◌then◌else◌, Some, None}
use Rattle.std.specs.Option.{option_or}
use Rattle.std.specs.Str.{bytes_eq}
use Rattle.std.proofs.lemmas.Result.{on_ok_weaker}
use Rattle.lp_build.specs.inner.Linked.{number_of}
use Rattle.lp_build.proofs.Signing.{one_signature_more, no_signature_more}
use Rattle.lp_build.proofs.links.Numbers.add.Goals as goal

pub returns-in-Signature : goal.returns-in-Signature
returns-in-Signature c =
    on_ok_weaker c.add_name.result
    (λ h files at has name. one_signature_more c.args.file.now files name c.args.number (number_of c.add_name.new.self name) (number_of c.args.self.now name) c.in-Signature.is at (has name)
    (h name ∙ ap (λ l. option_or (number_of c.args.self.now name) (if bytes_eq name l then Some c.args.number else None)) c.as_bytes.ensures.value)) c.add_name.ensures

pub returns-in-Module : goal.returns-in-Module
returns-in-Module c = λ files at has name. no_signature_more c.args.file.now files name (number_of c.args.self.now name) c.in-Module.is (has name)
