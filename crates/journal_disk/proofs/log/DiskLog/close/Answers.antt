use Rattle.journal_disk.proofs.Kept.{kept_images}
use Rattle.journal_disk.proofs.log.DiskLog.close.Goals as goal

pub returns-clause-images : goal.returns-clause-images
returns-clause-images g c pieces doubted keeps =
    kept_images _ c.args.self.end c.args.self.kept c.args.self.in_doubt pieces doubted keeps
