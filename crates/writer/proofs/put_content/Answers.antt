-- `writer::put_content` meets its contract: the version, and what follows it. Assumes nothing.
use Rattle.parsing.proofs.Parsing.{handed_on}
use Rattle.writer.proofs.ContentWriting.{version_refused, content_written}
use Rattle.writer.proofs.put_content.Goals as goal

pub returns-in_err-version-clause-written : goal.returns-in_err-version-clause-written
returns-in_err-version-clause-written c = rw (handed_on c.from_residual.ensures.1) (version_refused _ _ c.number-stated.ensures _ _ _ _ c.in_err-version.ensures.written)

pub returns-clause-written : goal.returns-clause-written
returns-clause-written c =
    let v = c.in_ok-version.ensures in
    content_written _ _ c.number-stated.ensures _ _ _ _ _ v.written v.taken.0 c.put_declared.ensures.written
