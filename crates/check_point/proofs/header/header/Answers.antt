use Rattle.std.proofs.Common.{ap, ◌∙◌}
use Rattle.store_model.specs.Disk.{page_of}
use Rattle.store_model.specs.Half.{header_spelling}
use Rattle.store_model.specs.Layout.{Layout}
use Rattle.check_point.proofs.Headers.{header-laid}
use Rattle.check_point.proofs.header.header.Goals as goal

pub returns : goal.returns
returns c =
    header-laid (record { units = c.layout.inside.units; room = c.layout.inside.room }) c.args.last c.args.count c.args.taken
    c.to_be_bytes.result c.to_be_bytes-2.result c.to_be_bytes-3.result c.to_be_bytes-4.result c.to_be_bytes-5.result c.to_be_bytes-6.result
    c.fill.new.page c.fill-2.new.page c.fill-3.new.page c.fill-4.new.page c.fill-5.new.page c.fill-6.new.page c.fill-7.new.page
    c.to_be_bytes.ensures c.to_be_bytes-2.ensures c.to_be_bytes-3.ensures c.to_be_bytes-4.ensures c.to_be_bytes-5.ensures c.to_be_bytes-6.ensures
    c.fill.ensures c.fill-2.ensures c.fill-3.ensures c.fill-4.ensures c.fill-5.ensures c.fill-6.ensures c.fill-7.ensures
    ∙ ap (λ (l : Layout). page_of (header_spelling l c.args.last c.args.count c.args.taken)) c.layout.view_is
