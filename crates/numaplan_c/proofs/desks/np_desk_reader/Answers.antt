use Rattle.std.proofs.Common.{◌≡◌, None}
use Rattle.numaplan_handles.specs.Desks.{IsReaderOf}
use Rattle.numaplan_handles.specs.Handles.{desk_in, reader_in}
use Rattle.numaplan_c.proofs.Made.{kept-made}
use Rattle.numaplan_c.proofs.desks.np_desk_reader.Goals as goal

pub returns-clause-reader : goal.returns-clause-reader
returns-clause-reader c closed = kept-made (IsReaderOf (desk_in c.args.desk.now))
    (desk_in c.args.desk.now ≡ None) c.view-made.result (reader_in c.keep.new.reader)
    c.keep.ensures.kept c.view-made.ensures.1.1
