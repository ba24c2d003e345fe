use Rattle.meta_ops.proofs.JoiningKept.{too_large, text_done}
use Rattle.meta_ops.proofs.joining.bounded.Goals as goal

pub returns-then-bytes-gt-LONGEST-clause-means : goal.returns-then-bytes-gt-LONGEST-clause-means
returns-then-bytes-gt-LONGEST-clause-means c = too_large c.args.names.now c.args.bytes.now c.if-bytes-gt-LONGEST.true

pub returns-clause-means : goal.returns-clause-means
returns-clause-means c = text_done c.text_value.new.names c.in_ok-id.id c.args.bytes.now c.if-bytes-gt-LONGEST.false c.in_ok-id.ensures.text
