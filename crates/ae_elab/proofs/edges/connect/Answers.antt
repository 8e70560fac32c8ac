use Rattle.ae_vmodule.specs.View.{net_tree}
use Rattle.ae_assign.specs.Edges.{FitsNext}
use Rattle.ae_assign.specs.declared.statements.Next.TheVariants.{Word, Write}
use Rattle.ae_elab.proofs.EdgeConnects.{memory_asked, register_asked, word_joined, write_joined}
use Rattle.ae_elab.proofs.edges.connect.Goals as goal

pub connect-requires : goal.connect-requires
connect-requires c =
    let fits : FitsNext c.args.nl.now.cells (net_tree c.args._words.now c.args.x.now) (Word c.in-Word.word) = rw c.in-Word.is at c.requires.fits in
    let asked = register_asked (net_tree c.args._words.now c.args.x.now) c.args.nl.now.cells c.args.net.0 c.in-Word.word c.requires.unconnected fits in
    record { register = asked.0; next = asked.1 }

pub connect_memory-requires : goal.connect_memory-requires
connect_memory-requires c =
    let fits : FitsNext c.args.nl.now.cells (net_tree c.args._words.now c.args.x.now)
    (Write c.in-Write.at c.in-Write.word c.in-Write.enable) = rw c.in-Write.is at c.requires.fits in
    let asked = memory_asked (net_tree c.args._words.now c.args.x.now) c.args.nl.now.cells c.args.net.0 c.in-Write.at c.in-Write.word c.in-Write.enable
    c.requires.unconnected
    fits in
    record { memory = asked.0; written = asked.1 }

pub returns-in-Word-clause-connects : goal.returns-in-Word-clause-connects
returns-in-Word-clause-connects c =
    let fits : FitsNext c.args.nl.now.cells (net_tree c.args._words.now c.args.x.now) (Word c.in-Word.word) = rw c.in-Word.is at c.requires.fits in
    (word_joined c.args._from (net_tree c.args._words.now c.args.x.now) c.args.nl.now c.connect.new.self c.args.net.0 c.in-Word.word c.requires.unconnected
    c.requires.early fits
    c.connect.ensures).connects

pub returns-in-Word-clause-constants : goal.returns-in-Word-clause-constants
returns-in-Word-clause-constants c =
    let fits : FitsNext c.args.nl.now.cells (net_tree c.args._words.now c.args.x.now) (Word c.in-Word.word) = rw c.in-Word.is at c.requires.fits in
    (word_joined c.args._from (net_tree c.args._words.now c.args.x.now) c.args.nl.now c.connect.new.self c.args.net.0 c.in-Word.word c.requires.unconnected
    c.requires.early fits
    c.connect.ensures).constants

pub returns-in-Word-clause-others : goal.returns-in-Word-clause-others
returns-in-Word-clause-others c =
    let fits : FitsNext c.args.nl.now.cells (net_tree c.args._words.now c.args.x.now) (Word c.in-Word.word) = rw c.in-Word.is at c.requires.fits in
    (word_joined c.args._from (net_tree c.args._words.now c.args.x.now) c.args.nl.now c.connect.new.self c.args.net.0 c.in-Word.word c.requires.unconnected
    c.requires.early fits
    c.connect.ensures).others

pub returns-in-Word-clause-stays : goal.returns-in-Word-clause-stays
returns-in-Word-clause-stays c =
    let fits : FitsNext c.args.nl.now.cells (net_tree c.args._words.now c.args.x.now) (Word c.in-Word.word) = rw c.in-Word.is at c.requires.fits in
    (word_joined c.args._from (net_tree c.args._words.now c.args.x.now) c.args.nl.now c.connect.new.self c.args.net.0 c.in-Word.word c.requires.unconnected
    c.requires.early fits
    c.connect.ensures).stays

pub returns-in-Word-clause-connected : goal.returns-in-Word-clause-connected
returns-in-Word-clause-connected c =
    let fits : FitsNext c.args.nl.now.cells (net_tree c.args._words.now c.args.x.now) (Word c.in-Word.word) = rw c.in-Word.is at c.requires.fits in
    rw c.in-Word.is (word_joined c.args._from (net_tree c.args._words.now c.args.x.now) c.args.nl.now c.connect.new.self c.args.net.0 c.in-Word.word
    c.requires.unconnected
    c.requires.early fits c.connect.ensures).connected

pub returns-in-Write-clause-connects : goal.returns-in-Write-clause-connects
returns-in-Write-clause-connects c =
    let fits : FitsNext c.args.nl.now.cells (net_tree c.args._words.now c.args.x.now)
    (Write c.in-Write.at c.in-Write.word c.in-Write.enable) = rw c.in-Write.is at c.requires.fits in
    (write_joined c.args._from (net_tree c.args._words.now c.args.x.now) c.args.nl.now c.connect_memory.new.self c.args.net.0 c.in-Write.at c.in-Write.word
    c.in-Write.enable
    c.requires.unconnected c.requires.early fits c.connect_memory.ensures).connects

pub returns-in-Write-clause-constants : goal.returns-in-Write-clause-constants
returns-in-Write-clause-constants c =
    let fits : FitsNext c.args.nl.now.cells (net_tree c.args._words.now c.args.x.now)
    (Write c.in-Write.at c.in-Write.word c.in-Write.enable) = rw c.in-Write.is at c.requires.fits in
    (write_joined c.args._from (net_tree c.args._words.now c.args.x.now) c.args.nl.now c.connect_memory.new.self c.args.net.0 c.in-Write.at c.in-Write.word
    c.in-Write.enable
    c.requires.unconnected c.requires.early fits c.connect_memory.ensures).constants

pub returns-in-Write-clause-others : goal.returns-in-Write-clause-others
returns-in-Write-clause-others c =
    let fits : FitsNext c.args.nl.now.cells (net_tree c.args._words.now c.args.x.now)
    (Write c.in-Write.at c.in-Write.word c.in-Write.enable) = rw c.in-Write.is at c.requires.fits in
    (write_joined c.args._from (net_tree c.args._words.now c.args.x.now) c.args.nl.now c.connect_memory.new.self c.args.net.0 c.in-Write.at c.in-Write.word
    c.in-Write.enable
    c.requires.unconnected c.requires.early fits c.connect_memory.ensures).others

pub returns-in-Write-clause-stays : goal.returns-in-Write-clause-stays
returns-in-Write-clause-stays c =
    let fits : FitsNext c.args.nl.now.cells (net_tree c.args._words.now c.args.x.now)
    (Write c.in-Write.at c.in-Write.word c.in-Write.enable) = rw c.in-Write.is at c.requires.fits in
    (write_joined c.args._from (net_tree c.args._words.now c.args.x.now) c.args.nl.now c.connect_memory.new.self c.args.net.0 c.in-Write.at c.in-Write.word
    c.in-Write.enable
    c.requires.unconnected c.requires.early fits c.connect_memory.ensures).stays

pub returns-in-Write-clause-connected : goal.returns-in-Write-clause-connected
returns-in-Write-clause-connected c =
    let fits : FitsNext c.args.nl.now.cells (net_tree c.args._words.now c.args.x.now)
    (Write c.in-Write.at c.in-Write.word c.in-Write.enable) = rw c.in-Write.is at c.requires.fits in
    rw c.in-Write.is (write_joined c.args._from (net_tree c.args._words.now c.args.x.now) c.args.nl.now c.connect_memory.new.self c.args.net.0 c.in-Write.at
    c.in-Write.word
    c.in-Write.enable c.requires.unconnected c.requires.early fits c.connect_memory.ensures).connected
