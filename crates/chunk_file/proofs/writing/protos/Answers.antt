use Rattle.op_words.specs.Chunks.{proto_of}
use Rattle.chunk_file.specs.Spelling.{HasCountsIn}
use Rattle.chunk_file.proofs.Written.{mapped_at}
use Rattle.chunk_file.proofs.writing.protos.Goals as goal

pub one_proto-requires : goal.one_proto-requires
one_proto-requires c =
    mapped_at HasCountsIn proto_of c.args.protos.now c.loop-proto.proto-index c.proto-item.result c.proto-item.is c.loop-proto-test.true c.requires.counts
