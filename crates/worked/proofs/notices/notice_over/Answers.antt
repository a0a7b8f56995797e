use Rattle.std.proofs.Common.{◌∙◌}
use Rattle.std.proofs.lemmas.List.{length-replicate}
use Rattle.paths.specs.Paths.{stations}
use Rattle.worked.proofs.Written.{worked, notice-written}
use Rattle.worked.proofs.notices.notice_over.Goals as goal

pub returns : goal.returns
returns g c =
    record {
      is =
          notice-written c.args.seal.now.words.now (stations c.args.path.now) _ c.write.new.out c.write.result
          c.requires.counting (length-replicate g.row.N 0 ∙ c.requires.room) c.write.ensures.placed;
      rules = worked;
    }
